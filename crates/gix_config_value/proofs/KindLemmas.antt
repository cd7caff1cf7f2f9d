-- What holds for every kind: whether a text is its name is decided, and each text is normalized or refused.
use Rattle.std.proofs.Common.{◌≡◌, ◌≢◌, ℕ, ◌⊎◌, inl, inr, List, [], ◌∷◌, Option, Some, None}
use Rattle.std.specs.List.{AllByRecursion}
use Rattle.gix_config_value.specs.declared.kind.Kind.{Kind}
use Rattle.gix_config_value.specs.declared.kind.Kind.TheVariants as kinds
use Rattle.gix_config_value.specs.Kinds.{kind_name, KindGrammar, KindCanonical}
use Rattle.config_text.specs.Value.{IsAccepted, IsRefused, HasText, IsTextOf, Normalizes}
use Rattle.config_text.specs.Laws.Value.{text_told, means_shown}
use Rattle.config_integer.specs.contracts.suffix.SuffixValue.TheImpl.Laws as suffix
use Rattle.config_integer.specs.contracts.integer.IntegerValue.TheImpl.Laws as integer
use Rattle.config_integer.specs.contracts.amount.AmountValue.TheImpl.Laws as amount
use Rattle.config_boolean.specs.contracts.boolean.BooleanValue.TheImpl.Laws as boolean
use Rattle.config_word.specs.contracts.name.NameValue.TheImpl.Laws as name
use Rattle.config_word.specs.contracts.attribute.AttributeValue.TheImpl.Laws as attribute
use Rattle.config_color.specs.contracts.color.ColorValue.TheImpl.Laws as color

-- whether a text is the name of one of these kinds
named_among : (kinds : List Kind) (head : List ℕ)
    → ((kind : Kind) × (kind_name kind ≡ head)) ⊎ AllByRecursion (λ kind. kind_name kind ≢ head) kinds
named_among [] head = inr tt
named_among (kind ∷ kinds) head = elim (text_told (kind_name kind) head) [
  | inl named ↦ inl (kind, named)
  | inr other ↦ elim (named_among kinds head) [ inl found ↦ inl found | inr none ↦ inr (other, none) ]
]

-- whether a text is the name of a kind
pub kind_told : (head : List ℕ)
    → ((kind : Kind) × (kind_name kind ≡ head)) ⊎ ((kind : Kind) → kind_name kind ≢ head)
kind_told head =
    elim
    (named_among (kinds.Suffix ∷ kinds.Integer ∷ kinds.Amount ∷ kinds.Boolean ∷ kinds.Name
    ∷ kinds.Attribute ∷ kinds.Color ∷ []) head) [
      | inl found ↦ inl found
      | inr none ↦ inr (λ kind. elim kind as (λ k. kind_name k ≢ head) [
        | kinds.Suffix ↦ none.0
        | kinds.Integer ↦ none.1.0
        | kinds.Amount ↦ none.1.1.0
        | kinds.Boolean ↦ none.1.1.1.0
        | kinds.Name ↦ none.1.1.1.1.0
        | kinds.Attribute ↦ none.1.1.1.1.1.0
        | kinds.Color ↦ none.1.1.1.1.1.1.0
      ])
    ]

-- from the laws of `Value`: each text is normalized to a text, or refused
normalized : {V : Type 0} {grammar : List ℕ → V → Type 0} {canonical : List ℕ → Type 0}
    {displayed : V → List ℕ}
    → ((t : List ℕ) (v w : V) → grammar t v → grammar t w → v ≡ w)
    → ((s t : List ℕ) (v : V) → canonical s → canonical t → grammar s v → grammar t v → s ≡ t)
    → ((v : V) → HasText grammar v → IsTextOf grammar canonical v (displayed v))
    → ((t : List ℕ) → IsAccepted grammar t ⊎ IsRefused grammar t)
    → (t : List ℕ) → (r : Option (List ℕ)) × Normalizes grammar canonical t r
normalized {displayed = displayed} one_value one_text shown decided t = elim (decided t) [
  | inl found ↦ (Some (displayed found.0), (found.0, means_shown one_value one_text shown t found.0 found.1))
  | inr refused ↦ (None, refused)
]

-- for each kind, each text is normalized to a text, or refused
pub kind_normalizes : (kind : Kind) (t : List ℕ)
    → (r : Option (List ℕ)) × Normalizes (KindGrammar kind) (KindCanonical kind) t r
kind_normalizes kinds.Suffix t =
    normalized suffix.one_value-law suffix.one_text-law suffix.shown_is_text-law suffix.decided-law t
kind_normalizes kinds.Integer t =
    normalized integer.one_value-law integer.one_text-law integer.shown_is_text-law integer.decided-law t
kind_normalizes kinds.Amount t =
    normalized amount.one_value-law amount.one_text-law amount.shown_is_text-law amount.decided-law t
kind_normalizes kinds.Boolean t =
    normalized boolean.one_value-law boolean.one_text-law boolean.shown_is_text-law boolean.decided-law t
kind_normalizes kinds.Name t =
    normalized name.one_value-law name.one_text-law name.shown_is_text-law name.decided-law t
kind_normalizes kinds.Attribute t =
    normalized attribute.one_value-law attribute.one_text-law attribute.shown_is_text-law
    attribute.decided-law t
kind_normalizes kinds.Color t =
    normalized color.one_value-law color.one_text-law color.shown_is_text-law color.decided-law t

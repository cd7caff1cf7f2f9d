-- What mends a finding.
use Rattle.std.proofs.Common.{◌≡◌, ◌≢◌, ◌≤◌, ◌<◌, ◌↔◌, ℕ, List, reverse, Bool, true, IsTrue, Option, None}
use Rattle.std.proofs.Common.{Some, option_map, inl, inr, length, ◌-◌}
use Rattle.std.proofs.Common.{refl, sym, ap, subst, ◌∙◌, if◌then◌else◌, Bor, arith}
use Rattle.std.proofs.lemmas.Int.{clamps}
use Rattle.std.proofs.lemmas.List.{get_or-reverse, length-reverse, reverse-reverse}
use Rattle.std.proofs.lemmas.Str.{IsUtf8-from_is_utf8, is_utf8-from_IsUtf8}
use Rattle.std.specs.Str.{IsUtf8, is_utf8}
use Rattle.serde_json.specs.Data.{Data, null}
use Rattle.config_file.specs.Key.{written}
use Rattle.config_checks.specs.declared.code.Code.{Code}
use Rattle.config_checks.specs.declared.code.Code.TheVariants.{NotAWord, NotCanonical, OtherValue}
use Rattle.config_checks.specs.declared.fix.Fix.{Fix}
use Rattle.config_checks.specs.declared.fix.Fix.TheVariants.{Name, Value}
use Rattle.config_checks.specs.declared.kind.SettingKind.TheVariants as kinds
use Rattle.config_checks.specs.declared.kind.WordList.{WordList}
use Rattle.config_checks.specs.declared.options.Options.{Options}
use Rattle.config_checks.specs.declared.reason.Reason.{Reason}
use Rattle.config_checks.specs.declared.row.Row.{Row}
use Rattle.config_checks.specs.declared.setting.Setting.{Setting}
use Rattle.config_checks.specs.declared.suggestion.UnknownKey.{UnknownKey}
use Rattle.config_checks.specs.Findings.{Finding}
use Rattle.config_checks.specs.Fixes.{IsClean, IsOnlyMeant, IsOnlyKey, MendsValue, IsRenamed, MendsKey, Mends}
use Rattle.config_checks.specs.Fixes.{IsSafeName, IsSafeValue, spelled, asked, mistyped, IsTypingError}
use Rattle.config_checks.specs.Nearest.{FewEdits, most_edits}
use Rattle.config_file.specs.Key.{Key, IsCut}
use Rattle.config_file.specs.KeyView.{key_of}
use Rattle.config_file.proofs.OneKey.{cut_same}
use Rattle.config_checks.specs.Reasons.{HasFinding, IsMeant, WordEdits}
use Rattle.config_checks.specs.Report.{key_meant}
use Rattle.config_checks.specs.Keys.{Covers}
use Rattle.config_checks.specs.Rows.{Decides, IsUnknown}
use Rattle.config_checks.specs.Settings.{value_of}
use Rattle.config_checks.specs.Suggestions.{IsUnknownKey}
use Rattle.config_checks.proofs.NearestLemmas.{nearest_once, no_far}
use Rattle.config_checks.proofs.OneFinding.{finding_once, none_before}
use Rattle.config_checks.proofs.OneKey.{row_once}
use Rattle.config_checks.proofs.OneSuggestion.{nearest_same}

-- ---- a text that is not UTF-8

coded : (b : Bool) (d : Data) → ¬ (b ≡ true) → d ≡ (if b then null else d)
coded b d other = grind arith

pub no_text : (t : List ℕ) (d : Data) → ¬ (IsUtf8 t) → d ≡ (if is_utf8 t then null else d)
no_text t d other = coded (is_utf8 t) d (λ h. other (IsUtf8-from_is_utf8 t h))

pub is_text : (t : List ℕ) (d : Data) → IsUtf8 t → null ≡ (if is_utf8 t then null else d)
is_text t d is = rw (is_utf8-from_IsUtf8 t is) refl

-- ---- a setting without a finding

pub not_both : (options : Options) (row : Row) (value : Option (List ℕ)) (reason : Reason)
    → HasFinding options row value (Some reason) → ¬ (HasFinding options row value None)
not_both options row value reason bad good =
    none_before reason (finding_once options row value None (Some reason) good bad)

module _ (rows : List Row) (options : Options) where
  pub clean_if : (key : List ℕ) (value : Option (List ℕ)) (row : Row) (b : Bool) → Decides rows key row
      → (IsTrue b ↔ HasFinding options row value None) → IsTrue b ↔ IsClean rows options key value
  clean_if key value row b decides is = (
    λ yes. record { row = row; decides = decides; clean = is.0 yes },
    λ clean. is.1 (rw (row_once rows key clean.row row clean.decides decides) at clean.clean),
  )

  module _ (setting : Setting) (code : Code) (new : List ℕ) (row : Row)
      (decides : Decides rows setting.key.items row) where
    pub mends_if : (b : Bool) → HasFinding options row (Some new) None
        → (IsTrue b ↔ (code ≡ NotAWord → IsOnlyMeant row.kind (value_of setting) new))
        → IsTrue b ↔ MendsValue rows options setting code new
    mends_if b none is = (
      λ yes. record { clean = record { row = row; decides = decides; clean = none }; only = is.0 yes },
      λ mends. is.1 (rw (row_once rows setting.key.items mends.clean.row row mends.clean.decides decides) at mends.only),
    )

    pub mends_not : ¬ (HasFinding options row (Some new) None) → ¬ (MendsValue rows options setting code new)
    mends_not some mends =
        some (rw (row_once rows setting.key.items mends.clean.row row mends.clean.decides decides) at mends.clean.clean)

-- ---- the only word that is meant

module _ (list : WordList) (t word : List ℕ) (words : List (Bor (List ℕ)))
    (is : words ≡ reverse list.words.items) where
  pub only_last : (last : Bor (List ℕ)) (b : Bool) → IsMeant words t (Some last) → (IsTrue b ↔ (last.now ≡ word))
      → IsTrue b ↔ IsOnlyMeant (kinds.Word list) (Some t) word
  only_last last b meant same = (
    λ yes other also. ap (λ w. w.now) (nearest_once (WordEdits t) words other last (rw is also) meant) ∙ same.0 yes,
    λ only. same.1 (only last (rw is at meant)),
  )

  pub only_none : IsMeant words t None → IsOnlyMeant (kinds.Word list) (Some t) word
  only_none far other also = absurd (no_far (WordEdits t) words other (rw is also) far)

-- ---- the only key that is suggested

-- no row covers the key, if the rows are looked through from the last to the first
pub unknown_reversed : (rows : List Row) (t : List ℕ) → IsUnknown rows t → IsUnknown (reverse rows) t
unknown_reversed rows t (inl none) = inl none
unknown_reversed rows t (inr (key, cut, none)) = inr (
  key,
  cut,
  λ k d inside.
      let long = length-reverse rows in
      let within : k < length rows = omega (arith, inside, long) in
      subst (λ row. ¬ (Covers (key_of row.key) key)) (sym (get_or-reverse rows k d within))
      (none (length rows - 1 - k) d (omega (arith, clamps, within))),
)

pub unknown_forwards : (rows : List Row) (t : List ℕ) → IsUnknown (reverse rows) t → IsUnknown rows t
unknown_forwards rows t unknown =
    subst (λ rows. IsUnknown rows t) (reverse-reverse rows) (unknown_reversed (reverse rows) t unknown)

pub only_key : (rows : List Row) (key suggested : List ℕ) (unknown : UnknownKey) (other : List ℕ) (b : Bool)
    → IsUnknownKey rows key unknown → Some other ≡ key_meant unknown → (IsTrue b ↔ (other ≡ suggested))
    → IsTrue b ↔ IsOnlyKey rows key suggested
only_key rows key suggested unknown other b this meant same = (
  λ h k also. ap (option_map written) (nearest_same rows key k unknown also this) ∙ sym meant ∙ ap Some (same.0 h),
  λ only. same.1 (let both : Some other ≡ Some suggested = meant ∙ only unknown this in cc),
)

pub key_if : (rows back : List Row) (options : Options) (setting : Setting) (key : List ℕ) (b : Bool)
    → back ≡ reverse rows
    → IsClean rows options key (value_of setting) → (IsTrue b ↔ IsOnlyKey back setting.key.items key)
    → IsTrue b ↔ MendsKey rows options setting key
key_if rows back options setting key b order clean only = (
  λ h. record { clean = clean; only = rw order at (only.0 h) },
  λ mends. only.1 (rw order mends.only),
)

-- ---- no change

pub no_name : (rows : List Row) (options : Options) (setting : Setting) (f : Finding) (key : List ℕ) (change : Fix)
    → f.suggested_value ≡ None → f.suggested_key ≡ Some key
    → ((name : List ℕ) → ¬ (IsRenamed setting.key.items key name))
    → ¬ (Mends rows options setting f change)
no_name rows options setting f key (Value new) none some other (meant, mends) =
    let both : None ≡ Some new.now = sym none ∙ meant in absurd (cc)
no_name rows options setting f key (Name name) none some other (also, meant, lacks, code, renamed, mends) =
    let both : Some also ≡ Some key = sym meant ∙ some in
    let same : also ≡ key = cc in
    other name.now (subst (λ k. IsRenamed setting.key.items k name.now) same renamed)

-- ---- safe changes

pub few_far : (was now : List ℕ) → ((n : ℕ) → FewEdits 5 now was n → 3 < n) → ¬ (IsTypingError was now)
few_far was now far t =
    let most : 1 ≤ most_edits 5 now was = grind arith in
    let least = t.one in
    let more = far t.edits (t.are, omega (arith, most, least)) in
    omega (arith, more, least)

module _ (setting : Setting) where
  pub safe_name : (name : List ℕ) (key : Key) (b : Bool) → IsCut setting.key.items key
      → (IsTrue b ↔ IsTypingError key.name name) → IsTrue b ↔ IsSafeName setting name
  safe_name name key b cut is = (
    λ yes. record { key = key; is = cut; mistyped = is.0 yes },
    λ safe. is.1 (rw (cut_same safe.is cut) at safe.mistyped),
  )

  pub safe_value : (code : Code) (new value : List ℕ) (b : Bool) → value_of setting ≡ Some value
      → code ≢ NotCanonical
      → code ≢ OtherValue → (IsTrue b ↔ IsTypingError value new) → IsTrue b ↔ IsSafeValue setting code new
  safe_value code new value b held no_spelling unasked is = (
    λ yes. mistyped value held (is.0 yes),
    λ safe. elim safe [
      | spelled so ↦ absurd (no_spelling so)
      | asked so ↦ absurd (unasked so)
      | mistyped other also typed ↦
          let both : Some other ≡ Some value = sym also ∙ held in
          let same : other ≡ value = cc in
          is.1 (rw same at typed)
    ],
  )

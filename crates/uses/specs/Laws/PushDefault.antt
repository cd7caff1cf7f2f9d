-- The laws that `push.default` has to prove as a kind of value.
use Rattle.std.proofs.Common.{arith, ◌≡◌, ℕ, ◌⊎◌, inl, inr, List, [], ◌∷◌, Option, Some, None, sym, ◌∙◌, codes}
use Rattle.std.proofs.Common.{if◌then◌else◌}
use Rattle.std.specs.Str.{bytes_eq}
use Rattle.std.proofs.lemmas.Option.{same_Some}
use Rattle.uses.specs.declared.push_default.PushDefault.{PushDefault}
use Rattle.uses.specs.declared.push_default.PushDefault.TheVariants.{Nothing, Current, Upstream, Simple}
use Rattle.uses.specs.declared.push_default.PushDefault.TheVariants.{Matching}
use Rattle.config_text.specs.Value.{IsAccepted, IsRefused, HasText, IsTextOf}
use Rattle.config_text.specs.OneOf.{OneOf}
use Rattle.config_text.specs.Laws.Value.{text_told, Told, either_told, IsShown, one_text_by}
use Rattle.config_text.specs.Laws.Value.{canonical_reads_by}
use Rattle.config_text.specs.Laws.OneOf.{decided_among}
use Rattle.uses.specs.PushDefault.{PushDefaultText, CanonicalPushDefault, push_default_shown}

-- the value of a text, as a function
value_of : List ℕ → Option PushDefault
value_of t =
    if bytes_eq t (codes "nothing") then Some Nothing
    else if bytes_eq t (codes "current") then Some Current
    else if bytes_eq t (codes "upstream") then Some Upstream
    else if bytes_eq t (codes "tracking") then Some Upstream
    else if bytes_eq t (codes "simple") then Some Simple
    else if bytes_eq t (codes "matching") then Some Matching
    else None

found : (t : List ℕ) (v : PushDefault) → PushDefaultText t v → value_of t ≡ Some v
unfolding value_of
found t v p = grind arith

pub push_default_one_value : (t : List ℕ) (v w : PushDefault) → PushDefaultText t v → PushDefaultText t w
    → v ≡ w
push_default_one_value t v w p q = same_Some v w (sym (found t v p) ∙ found t w q)

-- each canonical text is the one as which its value is shown
canonical_is_shown : (t : List ℕ) → CanonicalPushDefault t → IsShown PushDefaultText push_default_shown t
canonical_is_shown t (inl p) = record { value = Nothing; reads_to = p; same = p }
canonical_is_shown t (inr (inl p)) = record { value = Current; reads_to = p; same = p }
canonical_is_shown t (inr (inr (inl p))) = record { value = Upstream; reads_to = inl p; same = p }
canonical_is_shown t (inr (inr (inr (inl p)))) = record { value = Simple; reads_to = p; same = p }
canonical_is_shown t (inr (inr (inr (inr p)))) = record { value = Matching; reads_to = p; same = p }

pub push_default_one_text : (s t : List ℕ) (v : PushDefault)
    → CanonicalPushDefault s → CanonicalPushDefault t → PushDefaultText s v → PushDefaultText t v → s ≡ t
push_default_one_text = one_text_by push_default_one_value canonical_is_shown

pub push_default_canonical_reads : (t : List ℕ) → CanonicalPushDefault t → IsAccepted PushDefaultText t
push_default_canonical_reads = canonical_reads_by canonical_is_shown

pub push_default_shown_is_text : (v : PushDefault) → HasText PushDefaultText v
    → IsTextOf PushDefaultText CanonicalPushDefault v (push_default_shown v)
push_default_shown_is_text v h = grind arith

values : List PushDefault
values = Nothing ∷ Current ∷ Upstream ∷ Simple ∷ Matching ∷ []

each : (v : PushDefault) → OneOf values v
unfolding values
each v = grind arith

told : (t : List ℕ) (v : PushDefault) → Told (PushDefaultText t v)
told t Nothing = text_told t (codes "nothing")
told t Current = text_told t (codes "current")
told t Upstream = either_told (text_told t (codes "upstream")) (text_told t (codes "tracking"))
told t Simple = text_told t (codes "simple")
told t Matching = text_told t (codes "matching")

pub push_default_decided : (t : List ℕ) → IsAccepted PushDefaultText t ⊎ IsRefused PushDefaultText t
push_default_decided t = decided_among PushDefaultText values each t (told t)

-- each value has a text
pub push_default_has_text : (v : PushDefault) → HasText PushDefaultText v
push_default_has_text v = (push_default_shown v, grind arith)

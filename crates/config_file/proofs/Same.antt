-- What an item of a pattern is does not depend on the byte that it matches.
use Rattle.std.proofs.Common.{◌≡◌, ◌≢◌, ℕ, Bool, true, false, not, ◌||◌, ◌==◌, List, refl, sym, ap, ◌∙◌}
use Rattle.std.proofs.Common.{arith, inl, inr}
use Rattle.std.proofs.lemmas.Bool.{cases_Bool, true≢false}
use Rattle.config_file.specs.Bytes.{left_bracket, backslash}
use Rattle.config_file.specs.Set.{slash, folded}
use Rattle.config_file.specs.Pattern.{star, question_mark, stands_for, Item, byte, escaped, set}
use Rattle.config_file.proofs.Sets.{set_same}
use Rattle.config_file.proofs.Patterns.{stands_for_backslash, stands_for_bracket}

folded_slash : (i : Bool) (b : ℕ) → (folded i b == slash) ≡ (b == slash)
folded_slash true b = grind arith
folded_slash false b = refl

same_folded : (i : Bool) (b b2 : ℕ) → folded i b ≡ folded i b2 → (b == slash) ≡ (b2 == slash)
same_folded i b b2 e = sym (folded_slash i b) ∙ ap (λ x. x == slash) e ∙ folded_slash i b2

not_same : (x y : Bool) → not x ≡ true → not y ≡ true → x ≡ y
not_same false false e f = refl
not_same true y e f = absurd (true≢false (sym e))
not_same false true e f = absurd (true≢false (sym f))

folded_same : (c b b2 : ℕ) → (c == b) ≡ true → (c == b2) ≡ true → b ≡ b2
folded_same c b b2 e f = grind arith

stands_same : (i : Bool) (c b b2 : ℕ) → stands_for i c b ≡ true → stands_for i c b2 ≡ true
    → (b == slash) ≡ (b2 == slash)
stands_same i c b b2 is is2 = elim (cases_Bool (c == question_mark)) [
  | inl e ↦ not_same (b == slash) (b2 == slash) (rw e at is) (rw e at is2)
  | inr f ↦ elim (cases_Bool ((c == star || c == left_bracket) || c == backslash)) [
    | inl g ↦ absurd (true≢false (sym (rw (f, g) at is)))
    | inr g ↦
        same_folded i b b2 (folded_same (folded i c) (folded i b) (folded i b2) (rw (f, g) at is) (rw (f, g) at is2))
  ]
]

no_slash_test : (b : ℕ) → b ≢ slash → (b == slash) ≡ false
no_slash_test b ne = grind arith

pub item_same : {i : Bool} {b b2 : ℕ} {pattern r r2 : List ℕ} → Item i pattern b r → Item i pattern b2 r2
    → (r ≡ r2) × ((b == slash) ≡ (b2 == slash))
item_same {i = i} {b = b} {b2 = b2} (byte {c = c} is) (byte is2) = (refl, stands_same i c b b2 is is2)
item_same {i = i} {b = b} (byte {c = c} is) (escaped e f) = absurd (stands_for_backslash i c b e is)
item_same {i = i} {b = b} (byte {c = c} is) (set e stands) = absurd (stands_for_bracket i c b e is)
item_same {i = i} {b2 = b2} (escaped {c = c} e f) (byte is) = absurd (stands_for_backslash i c b2 e is)
item_same {i = i} {b = b} {b2 = b2} (escaped e f) (escaped e2 f2) = (refl, same_folded i b b2 (sym f ∙ f2))
item_same (escaped e f) (set e2 stands) = absurd (omega arith)
item_same {i = i} {b2 = b2} (set {c = c} e stands) (byte is) = absurd (stands_for_bracket i c b2 e is)
item_same (set e stands) (escaped e2 f2) = absurd (omega arith)
item_same {b = b} {b2 = b2} (set e stands) (set e2 stands2) =
    ((set_same stands.members stands2.members).0, no_slash_test b stands.no_slash ∙ sym (no_slash_test b2 stands2.no_slash))

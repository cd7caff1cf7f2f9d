-- Normal forms of texts of URLs.
use Rattle.std.proofs.Common.{◌≡◌, ◌≢◌, ◌+◌, ◌*◌, ◌++◌, ◌∙◌, ℕ, true, false, List, [], ◌∷◌, Some}
use Rattle.std.proofs.Common.{refl, sym, ap}
use Rattle.std.proofs.lemmas.List.{append-nil}
use Rattle.std.proofs.Math.Bool.{or-false}
use Rattle.std.proofs.lemmas.Option.{same_Some}
use Rattle.config_url.specs.Url.{IsNormal, done, plain, escape, escaped, is_unsafe, hex_value}
use Rattle.config_url.specs.Reading.Urls.{GoesOn, written_as}

plain_back : {b : ℕ} {rest normal : List ℕ} → b ≢ 37 → IsNormal (b ∷ rest) normal
    → (n : List ℕ) × IsNormal rest n
plain_back other (plain {normal = n} e is) = (n, is)
plain_back other (escape e f g is) = absurd (other e)

escape_back : {b high low : ℕ} {rest normal : List ℕ} → b ≡ 37 → IsNormal (b ∷ high ∷ low ∷ rest) normal
    → (n : List ℕ) × IsNormal rest n
escape_back e (plain other is) = absurd (other e)
escape_back e (escape {normal = n} f g h is) = (n, is)

pub plain_goes : (b : ℕ) (rest : List ℕ) → b ≢ 37 → GoesOn (b ∷ rest) (written_as false b) rest
plain_goes b rest other = record {
  more = λ normal is. rw (or-false (is_unsafe b)) (plain other is);
  none = λ never normal is. let (n, before) = plain_back other is in never n before;
}

pub escaped_goes : (b high low h l : ℕ) (text more rest : List ℕ) → b ≡ 37 → text ≡ high ∷ more
    → more ≡ low ∷ rest
    → hex_value high ≡ Some h → hex_value low ≡ Some l
    → GoesOn (b ∷ text) (written_as true (h * 16 + l)) rest
escaped_goes b high low h l text more rest e first second f g = rw (first, second) (record {
  more = λ normal is. escape e f g is;
  none = λ never normal is. let (n, before) = escape_back e is in never n before;
})

pub goes_end : {text a rest : List ℕ} → GoesOn text a rest → rest ≡ [] → IsNormal text a
goes_end {a = a} on e = rw (append-nil a) at (on.more [] (rw e done))

pub normal_only : {text a b : List ℕ} → IsNormal text a → IsNormal text b → a ≡ b
normal_only done done = refl
normal_only (plain {b = c} e is) (plain f other) =
    ap (λ n. escaped (is_unsafe c) c ++ n) (normal_only is other)
normal_only (plain e is) (escape f g h other) = absurd (e f)
normal_only (escape e f g is) (plain h other) = absurd (h e)
normal_only (escape {h = x} {l = y} {normal = n} e f g is) (escape {h = z} {l = w} {normal = m} h i j other) =
    rw (same_Some _ _ (sym f ∙ i), same_Some _ _ (sym g ∙ j), normal_only is other)

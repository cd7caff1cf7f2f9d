use Rattle.std.proofs.Common.{◌≡◌, ℕ, List, Bool, true, false, refl, sym, ◌∙◌}
use Rattle.bstr.specs.Owned.{bstring_bytes}
use Rattle.config_path.specs.Path.{Marked}
use Rattle.config_path.proofs.laws.paths.one_path.Goals as goal

record Same (a b : Bool) (k m : List ℕ) : Type 0 where
  flag : a ≡ b
  bytes : k ≡ m

one_mark : (text : List ℕ) (a b : Bool) (k m : List ℕ) → Marked text a k → Marked text b m → Same a b k m
one_mark text true true k m p q = record { flag = refl; bytes = cc }
one_mark text true false k m p q = absurd (q.1 k p)
one_mark text false true k m p q = absurd (p.1 m q)
one_mark text false false k m p q = record { flag = refl; bytes = p.0 ∙ sym q.0 }

pub returns : goal.returns
returns c = λ text p q h k.
    let s = one_mark text p.is_optional q.is_optional (bstring_bytes p.value) (bstring_bytes q.value) h k in
    record { bytes = s.bytes; flag = s.flag }

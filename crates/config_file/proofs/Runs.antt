-- Runs of bytes.
use Rattle.std.proofs.Common.{◌≡◌, ℕ, suc, ◌+◌, Bool, List, [], ◌∷◌, take, drop, refl, ap, arith, inl, inr}
use Rattle.std.proofs.lemmas.Bool.{cases_Bool}
use Rattle.std.specs.List.{prefix_len}
use Rattle.config_file.specs.Runs.{Run}

-- the bytes that `prefix_len` counts are the longest run at the start of the text
pub run_split : (test : ℕ → Bool) (text : List ℕ)
    → Run test text (take (prefix_len test text) text) (drop (prefix_len test text) text)
run_split test [] = record { joined = refl; pass = refl; longest = tt }
run_split test (b ∷ text) =
    elim (cases_Bool (test b)) [
      | inl pass ↦ let more = run_split test text in
          let next : 1 + prefix_len test text ≡ suc (prefix_len test text) = omega arith in
          rw (pass, next) (record { joined = ap (◌∷◌ b) more.joined; pass = rw pass more.pass; longest = more.longest })
      | inr fail ↦ rw fail (record { joined = refl; pass = refl; longest = fail })
    ]

use Rattle.std.proofs.Common.{◌≡◌, ◌≢◌, ◌<◌, ◌≤◌, ◌++◌, ◌∷◌, [], ◌∙◌, ap, arith, ℕ, zero, suc, List, drop, length}
use Rattle.std.proofs.Common.{refl, replicate, slice_index, rules}
use Rattle.std.proofs.lemmas.List.{length-append, length-replicate}
use Rattle.config_text.proofs.words.begins_with_run.Goals as goal

-- a text whose first `n` bytes are all this byte begins with a run of them
run_and_rest : (n byte : ℕ) (t : List ℕ) → n ≤ length t → ((k : ℕ) → k < n → slice_index t k ≡ byte)
    → t ≡ replicate n byte ++ drop n t
run_and_rest zero byte t long same = refl
run_and_rest (suc n) byte [] long same = absurd (omega arith)
run_and_rest (suc n) byte (c ∷ cs) long same =
    ap (λ b. b ∷ cs) (same 0 (omega arith))
    ∙ ap (λ l. byte ∷ l) (run_and_rest n byte cs (omega arith) (λ k below. same (suc k) (omega arith)))

each_of_run : (n byte : ℕ) (t rest : List ℕ) → t ≡ replicate n byte ++ rest → (k : ℕ) → k < n → slice_index t k ≡ byte
each_of_run zero byte t rest is k below = absurd (omega (arith, below))
each_of_run (suc n) byte t rest is zero below = rw is refl
each_of_run (suc n) byte t rest is (suc k) below = rw is (each_of_run n byte (replicate n byte ++ rest) rest refl k (omega (arith, below)))

no_run : (n byte : ℕ) (t rest : List ℕ) → length t < n → t ≢ replicate n byte ++ rest
no_run n byte t rest short is =
    omega (arith, short, ap length is, length-append (replicate n byte) rest, length-replicate n byte)

pub returns-then-text : goal.returns-then-text
returns-then-text g c = (λ yes. absurd (search rules), λ is. absurd (no_run _ _ _ _ c.if-text.true is))

pub returns : goal.returns
returns g c = (
  λ yes. run_and_rest _ _ _ c.loop-at.invariant.long (λ k below. c.loop-at.invariant.same.0 yes k (omega arith)),
  λ is. c.loop-at.invariant.same.1 (λ k below. each_of_run g.row.N c.args.byte c.args.text.now (drop g.row.N c.args.text.now) is k (omega (arith, below, c.loop-at-test.false))),
)

-- Lines: the index of the first LF or of the first space in a list of bytes.
use Rattle.std.proofs.Common.{◌-◌, suc, eq-eqb, eqb-true, ◌≡◌, ◌≢◌, ℕ, ◌+◌, ◌<◌, ◌==◌, List, [], ◌∷◌, ◌++◌}
use Rattle.std.proofs.Common.{length, take, drop, get_or, sym, ap, ◌∙◌, arith}
use Rattle.std.proofs.Common.{append_assoc, add-one, drop-cons, length-take, take-append-drop}
use Rattle.std.proofs.lemmas.Bool.{false_from_ne_true}
use Rattle.std.specs.List.{AllByRecursion, position_or_len}
use Rattle.std.proofs.lemmas.List.Sums.{position_or_len_is}
use Rattle.std.proofs.lemmas.List.{take_rest, get_or-take}
use Rattle.bstr.specs.Find.{Passes, Nowhere, NoneBefore, is_byte}
use Rattle.std.proofs.Math.Seq.{take-length}
use Rattle.std.proofs.Math.ListN.{drop_of_length-le}
use Rattle.config_text.specs.Bytes.{line_feed, space}
use Rattle.gix_config_value.specs.Answers.{IsUnbroken, line_head, line_value}
use Rattle.gix_config_value.specs.Reading.Steps.{CutsLine}

-- the position of a byte that does not occur is the length
pub position_nowhere : (byte : ℕ) (bytes : List ℕ) → Nowhere (Passes (is_byte byte) bytes) 0 (length bytes)
    → position_or_len (λ b. b == byte) bytes ≡ length bytes
position_nowhere byte bytes none =
    position_or_len_is (λ b. b == byte) bytes (length bytes) 0 (omega arith)
    (λ k below. false_from_ne_true _ (none k (omega arith) below))
    (λ below. absurd (omega arith))

-- the position of a byte that occurs first at index `i` is `i`
pub position_first : (byte : ℕ) (bytes : List ℕ) (i : ℕ)
    → NoneBefore (Passes (is_byte byte) bytes) 0 (length bytes) i
    → Passes (is_byte byte) bytes i → position_or_len (λ b. b == byte) bytes ≡ i
position_first byte bytes i first passes =
    position_or_len_is (λ b. b == byte) bytes i 0 (omega (arith, first.high))
    (λ k below. false_from_ne_true _ (first.before k (omega arith) below))
    (λ _. passes)

-- what holds at each index holds for each element
pub AllByRecursion-from_places : (P : ℕ → Type 0) (xs : List ℕ)
    → ((k : ℕ) → k < length xs → P (get_or xs k 0)) → AllByRecursion P xs
AllByRecursion-from_places P [] each = tt
AllByRecursion-from_places P (x ∷ xs) each =
    (each 0 (omega arith), AllByRecursion-from_places P xs (λ k below. each (suc k) (omega arith)))

pub unbroken_nowhere : (bytes : List ℕ) → Nowhere (Passes (is_byte line_feed) bytes) 0 (length bytes)
    → IsUnbroken bytes
unbroken_nowhere bytes none =
    AllByRecursion-from_places (λ b. b ≢ line_feed) bytes
    (λ k below is. none k (omega arith) below (eq-eqb _ line_feed is))

pub cuts_first : (bytes : List ℕ) (i : ℕ) → NoneBefore (Passes (is_byte line_feed) bytes) 0 (length bytes) i
    → Passes (is_byte line_feed) bytes i → CutsLine bytes i
cuts_first bytes i first passes = record {
  parts =
      let inside : i < length bytes = first.high in
      let here : get_or bytes i 0 ≡ line_feed = eqb-true _ line_feed passes in
      let from_here : drop i bytes ≡ line_feed ∷ drop (i + 1) bytes =
      rw (add-one, drop-cons bytes i 0) (ap (λ b. b ∷ drop (suc i) bytes) here) in
      rw append_assoc (sym (take-append-drop i bytes) ∙ ap (λ l. take i bytes ++ l) from_here);
  unbroken = AllByRecursion-from_places (λ b. b ≢ line_feed) (take i bytes) (λ k below is.
      let before : k < i = omega (arith, length-take {A = ℕ}) in
      first.before k (omega arith) before (eq-eqb _ line_feed (sym (get_or-take i bytes k 0 before) ∙ is)));
}

-- ---- the head of a line and what follows it

pub head_first : (line : List ℕ) (i : ℕ) → position_or_len (λ b. b == space) line ≡ i
    → take i line ≡ line_head line
head_first line i at = ap (λ n. take n line) (sym at)

pub head_nowhere : (line : List ℕ) → position_or_len (λ b. b == space) line ≡ length line
    → line ≡ line_head line
head_nowhere line at = sym (ap (λ n. take n line) at ∙ take-length line)

pub value_first : (line : List ℕ) (i : ℕ) → position_or_len (λ b. b == space) line ≡ i
    → take (length line - (i + 1)) (drop (i + 1) line) ≡ line_value line
value_first line i at = take_rest line (i + 1) ∙ ap (λ n. drop (n + 1) line) (sym at)

pub value_nowhere : (line : List ℕ) → position_or_len (λ b. b == space) line ≡ length line
    → [] ≡ line_value line
value_nowhere line at = sym (ap (λ n. drop (n + 1) line) at ∙ drop_of_length-le line (omega arith))

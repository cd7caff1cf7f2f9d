-- At the start of a text there is at most one entry or place at which the reading stops.
use Rattle.std.proofs.Common.{◌≡◌, ◌∙◌, ◌==◌, ℕ, List, [], ◌∷◌, Option, Some, None, Result, Ok, Err}
use Rattle.std.proofs.Common.{sym, ap, take, drop, if◌then◌else◌, arith, inl, inr}
use Rattle.std.specs.List.{prefix_len}
use Rattle.config_file.proofs.OneRun.{run_only}
use Rattle.config_file.proofs.Runs.{run_split}
use Rattle.config_file.proofs.OneValue as one_value
use Rattle.config_file.proofs.OneValue.{ValueHas, value_of, value_is}
use Rattle.config_file.proofs.Pick.{choose, chosen, not_chosen, line_end_decided, test_false}
use Rattle.config_file.specs.declared.errors.Why.{Why}
use Rattle.config_file.specs.Bytes.{IsAtLineEnd, is_key_byte, is_space}
use Rattle.config_file.specs.Header.{BeginsWithout, why_at}
use Rattle.config_file.specs.File as file
use Rattle.config_file.specs.File.{TakesKey, TakesEntry, EntryStops}

abbrev pub Outcome : Type 0
Outcome = Result (List ℕ × Option (List ℕ) × ℕ × List ℕ) (ℕ × Why)

abbrev with_key : List ℕ → one_value.Outcome → Outcome
with_key key (Ok p) = Ok (key, Some p.0, p.1, p.2)
with_key key (Err stop) = Err stop

-- the outcome after this key
abbrev after_key : List ℕ → List ℕ → Outcome
after_key key [] = Err (0, why_at [])
after_key key (b ∷ after) =
    if b == 61 then with_key key (value_of after) else Err (0, why_at (b ∷ after))

abbrev ends_of : List ℕ → List ℕ → Outcome
ends_of key rest = choose (line_end_decided rest) (Ok (key, None, 0, rest)) (after_key key rest)

abbrev after_spaces : List ℕ → List ℕ → Outcome
after_spaces key spaced = ends_of key (drop (prefix_len is_space spaced) spaced)

abbrev entry_of : List ℕ → Outcome
entry_of text =
    let n = prefix_len is_key_byte text in after_spaces (take n text) (drop n text)

ends_at : {text key rest : List ℕ} → TakesKey text key rest → ends_of key rest ≡ entry_of text
ends_at {text = text} {key = key} {rest = rest} takes =
    let (keys, spaceds) = run_only takes.key_run (run_split is_key_byte text) in
    let (all, rests) = run_only takes.space_run (run_split is_space takes.spaced) in
    let first : ends_of key rest ≡ after_spaces key takes.spaced = rw rests in
    let second : after_spaces key takes.spaced ≡ entry_of text = rw (keys, spaceds) in
    first ∙ second

no_line_end : (b : ℕ) (after : List ℕ) → b ≡ 61 → IsAtLineEnd (b ∷ after) → ⊥
no_line_end b [] is h = omega arith
no_line_end b (c ∷ after) is (inl line) = omega arith
no_line_end b (c ∷ after) is (inr (return, line)) = omega arith

going : (key rest : List ℕ) → (IsAtLineEnd rest → ⊥) → after_key key rest ≡ ends_of key rest
going key rest h = sym (not_chosen (line_end_decided rest) (Ok (key, None, 0, rest)) (after_key key rest) h)

valued_ends : (key after : List ℕ) (b : ℕ) (o : one_value.Outcome) → b ≡ 61 → ValueHas after o
    → with_key key o ≡ ends_of key (b ∷ after)
valued_ends key after b o is has =
    let here : with_key key o ≡ after_key key (b ∷ after) = rw is (ap (with_key key) (value_is after o has)) in
    here ∙ going key (b ∷ after) (no_line_end b after is)

stopped_ends : (key rest : List ℕ) → BeginsWithout 61 rest → ¬ (IsAtLineEnd rest)
    → Err (0, why_at rest) ≡ ends_of key rest
stopped_ends key [] other h = absurd (h tt)
stopped_ends key (b ∷ after) other h =
    let here : Err (0, why_at (b ∷ after)) ≡ after_key key (b ∷ after) = rw (test_false b 61 other) in
    here ∙ going key (b ∷ after) h

abbrev pub EntryHas : List ℕ → Outcome → Type 0
EntryHas text (Ok p) = TakesEntry text p.0 p.1 p.2 p.3
EntryHas text (Err stop) = EntryStops text stop.0 stop.1

entry_is : (text : List ℕ) (outcome : Outcome) → EntryHas text outcome → outcome ≡ entry_of text
entry_is text (Ok (key, v, lines, rest)) (file.alone takes end) =
    sym (chosen (line_end_decided rest) (Ok (key, None, 0, rest)) (after_key key rest) end) ∙ ends_at takes
entry_is text (Ok (key, v, lines, rest)) (file.valued {b = b} {after = after} {raw = raw} takes is taken) =
    valued_ends key after b (Ok (raw, lines, rest)) is taken ∙ ends_at takes
entry_is text (Err (lines, why)) (file.key {key = key} {rest = rest} takes other h) =
    stopped_ends key rest other h ∙ ends_at takes
entry_is text (Err (lines, why)) (file.value {b = b} {key = key} {after = after} takes is stopped) =
    valued_ends key after b (Err (lines, why)) is stopped ∙ ends_at takes

pub entry_only : (text : List ℕ) (a b : Outcome) → EntryHas text a → EntryHas text b → a ≡ b
entry_only text a b first second = entry_is text a first ∙ sym (entry_is text b second)

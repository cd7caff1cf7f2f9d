use Rattle.std.proofs.Common.{◌≡◌, ◌+◌, ◌≤◌, ◌++◌, ℕ, List, drop, length, map}
use Rattle.config_text.specs.declared.value.TheConstants.{LONGEST_TEXT}
use Rattle.config_word.specs.Reading.Attribute.{remaining, shown_row, words_in}
use Rattle.config_word.proofs.attribute.Attribute.push_words.Given as goal

-- what is written and what is left make up the whole text, and there is room for it
abbrev pub invariant-loop-shown : goal.invariant-loop-shown
invariant-loop-shown l =
    (length l.text.bytes + length
    (remaining l.is_first (words_in l.self.0 (map shown_row (drop l.shown-index l.rows))))
    ≤ LONGEST_TEXT)
    × ((later : List (List ℕ))
    → l.fn.text.bytes ++ remaining l.fn.begins (words_in l.self.0 (map shown_row l.fn.rows) ++ later)
    ≡ l.text.bytes ++ remaining l.is_first
    (words_in l.self.0 (map shown_row (drop l.shown-index l.rows)) ++ later))

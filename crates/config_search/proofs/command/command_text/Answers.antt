use Rattle.std.proofs.Common.{◌≡◌, [], ℕ, List, Option, append-nil, refl, subst}
use Rattle.config_file.proofs.Commands.{adds_both}
use Rattle.config_search.specs.Command.{AreHandedOn}
use Rattle.config_search.proofs.Counting.{whole_count}
use Rattle.config_search.proofs.command.command_text.Goals as goal

pub returns-in_default-clause-text : goal.returns-in_default-clause-text
returns-in_default-clause-text c = λ system agrees counting whole.
    let same : c.in_ok-text.text.items ≡ c.args.counted.now.text.items = rw c.deref.ensures.value at
    c.in_ok-text.ensures in (
      counting.settings,
      [],
      whole_count system c.args.counted.now counting whole,
      subst (λ (text : Option (List ℕ)). AreHandedOn text [])
          (rw c.in_default.is at c.in_ok-parameters.ensures system agrees) refl,
      rw (append-nil counting.settings, same) counting.adds,
    )

pub returns-in-Ok-clause-text : goal.returns-in-Ok-clause-text
returns-in-Ok-clause-text c = λ system agrees counting whole.
    let same : c.in_ok-text.text.items ≡ c.args.counted.now.text.items = rw c.deref.ensures.value at
    c.in_ok-text.ensures in
    let (settings, spell, (lines, also, then)) = c.in-Ok.ensures in (
      counting.settings,
      settings,
      whole_count system c.args.counted.now counting whole,
      subst (λ (text : Option (List ℕ)). AreHandedOn text settings)
          (rw c.in-Some.is at c.in_ok-parameters.ensures system agrees) spell,
      rw then (adds_both c.in_ok-text.text.items lines counting.settings settings (rw same counting.adds)
          also),
    )

pub returns-in_ok-of_command-in-Err-clause-text : goal.returns-in_ok-of_command-in-Err-clause-text
returns-in_ok-of_command-in-Err-clause-text c =
    c.in_ok-of_command-in-Err.ensures.asks c.args.lookup.now.folder.now c.args.lookup.now.facts.now

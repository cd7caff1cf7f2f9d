use Rattle.std.proofs.Common.{◌∷◌, ◌++◌, [], arith}
use Rattle.config_file.proofs.Commands.{adds_both}
use Rattle.config_search.specs.Command.{one_setting}
use Rattle.config_search.proofs.Counting.{same_text}
use Rattle.config_search.proofs.command.Counted.push_next.Goals as goal

pub returns-in_err-push_numbered-clause-counts : goal.returns-in_err-push_numbered-clause-counts
returns-in_err-push_numbered-clause-counts c = λ system agrees counting.
    same_text system c.args.self.now _ c.in_err-push_numbered.ensures.kept counting

pub returns-clause-counts : goal.returns-clause-counts
returns-clause-counts c = λ system agrees counting.
    let (setting, line, is, also, then) = c.in_ok-push_numbered.ensures.next system agrees in record {
      settings = counting.settings ++ setting ∷ [];
      adds = rw then (adds_both c.args.self.now.text.items line counting.settings (setting ∷ [])
          counting.adds also);
      are = one_setting setting counting.are is;
      within = omega (arith, c.requires);
      is_count = counting.is_count;
    }

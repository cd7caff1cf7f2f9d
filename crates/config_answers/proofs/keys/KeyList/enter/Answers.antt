use Rattle.config_file.specs.Views.{section_of}
use Rattle.config_answers.proofs.KeyLemmas.{front_alone}
use Rattle.config_answers.proofs.keys.KeyList.enter.Goals as goal

pub invariant_of-self-2 : goal.invariant_of-self-2
invariant_of-self-2 c = record {
  lists = front_alone (section_of c.args.section) c.push_key.new.text.items
      (rw c.clear.ensures.items at c.in_ok-push_key.ensures);
}

use Rattle.std.proofs.Common.{◌≡◌, ℕ, List, ap, option_map, rules}
use Rattle.config_file.specs.Listing.{IsListedSection}
use Rattle.config_file.specs.Views.{section_of}
use Rattle.config_answers.proofs.KeyLemmas.{front_and_key}
use Rattle.config_answers.proofs.keys.KeyList.push.Goals.{then-not-is_in+in_ok-enter, else-not-is_in}
use Rattle.config_answers.proofs.keys.KeyList.push.Goals as goal

pub returns : goal.returns
returns c = λ listed lists.
    let front = c.if-not-is_in.self.front.items in
    let is : (listed : List ℕ) → IsListedSection (section_of c.in-Some.section) listed → front ≡ listed =
    elim c.if-not-is_in.branch [
      | then-not-is_in+in_ok-enter w ↦ rw w.self-is w.in_ok-enter.ensures
      | else-not-is_in w ↦ rw w.self-is (c.is_in.ensures w.if-not-is_in.false)
    ] in
    front_and_key c.push_lower_key-2.result (option_map section_of c.args.entry.now.section) (section_of c.in-Some.section)
    c.args.entry.now.key.now c.args.text.now.items front c.extend_from_slice.new.self.items
    c.push_lower_key-2.new.text.items listed (ap (option_map section_of) c.in-Some.is) is (search rules)
    c.push_lower_key-2.ensures lists

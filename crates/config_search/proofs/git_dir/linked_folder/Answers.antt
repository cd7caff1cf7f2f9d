use Rattle.std.proofs.Common.{◌≡◌, ◌∙◌, List, ℕ, Option, true, false, is_some, sym, refl, codes}
use Rattle.config_search.specs.System.{System}
use Rattle.config_search.specs.Names.{inside}
use Rattle.config_search.specs.Rule.{linked_folder, linked_by, Own}
use Rattle.config_search.specs.declared.TheConstants.{KIND, TEXT}
use Rattle.config_search.specs.Questions.{of_part}
use Rattle.config_search.proofs.git_dir.linked_folder.Goals as goal

own : (system : System) (folder : List ℕ) (kind : Option (List ℕ))
    → kind ≡ system KIND (inside folder (codes "commondir")) → is_some kind ≡ false
    → Own ≡ linked_folder system folder
unfolding linked_folder
own system folder kind is not = rw (sym is, not) refl

named : (system : System) (folder : List ℕ) (kind text : Option (List ℕ))
    → kind ≡ system KIND (inside folder (codes "commondir")) → is_some kind ≡ true
    → text ≡ system TEXT (inside folder (codes "commondir"))
    → linked_by system folder text ≡ linked_folder system folder
unfolding linked_folder
named system folder kind text is known answer_to = rw (sym is, known, answer_to) refl

pub returns-then-not-is_known : goal.returns-then-not-is_known
returns-then-not-is_known c = λ system agrees. own system c.args.git_dir.now _
    (c.in_ok-kind.ensures system agrees) (sym c.is_known.ensures ∙ c.if-not-is_known.true)

pub returns : goal.returns
returns c = λ system agrees. c.in_ok-linked_by.ensures system agrees ∙ named system c.args.git_dir.now _ _
    (c.in_ok-kind.ensures system agrees) (sym c.is_known.ensures ∙ c.if-not-is_known.false)
    (c.in_ok-text.ensures system agrees)

pub answer_in-requires : goal.answer_in-requires
answer_in-requires c = λ system agrees. of_part (codes "commondir") refl (c.requires system agrees)

pub answer_in-requires-2 : goal.answer_in-requires-2
answer_in-requires-2 c = λ system agrees. of_part (codes "commondir") refl (c.requires system agrees)

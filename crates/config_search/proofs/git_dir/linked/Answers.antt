use Rattle.std.proofs.Common.{◌≡◌, ◌∙◌, List, ℕ, Option, None, Some, true, false, sym, refl, ap}
use Rattle.config_search.specs.System.{System}
use Rattle.config_search.specs.Names.{folder_of}
use Rattle.config_search.specs.Rule.{linked, may_link, resolved, resolved_target, target}
use Rattle.config_search.specs.declared.TheConstants.{KIND, TEXT}
use Rattle.config_search.specs.Questions.{of_place}
use Rattle.config_search.proofs.git_dir.linked.Goals as goal

none : (system : System) (name : List ℕ) (kind : Option (List ℕ)) → kind ≡ system KIND name
    → may_link kind ≡ false → None ≡ linked system name
unfolding linked
none system name kind is not = rw (sym is, not) refl

-- where the text of the file gives this name
leads : (system : System) (name folder : List ℕ) (kind text found : Option (List ℕ)) → kind ≡ system KIND name
    → may_link kind ≡ true → folder ≡ folder_of name → text ≡ system TEXT name → found ≡ target folder text
    → resolved_target system found ≡ linked system name
unfolding linked
leads system name folder kind text found is may at answer_to gives = rw (sym is, may, gives, at, answer_to) refl

pub returns-then-not-may_link : goal.returns-then-not-may_link
returns-then-not-may_link c = λ system agrees. none system c.args.name.now _
    (c.in_ok-kind.ensures system agrees) (sym c.may_link.ensures ∙ c.if-not-may_link.true)

pub returns-in_ok-resolved-in-Some : goal.returns-in_ok-resolved-in-Some
returns-in_ok-resolved-in-Some c = λ system agrees.
    ap (λ (n : List ℕ). Some n) (c.in_ok-resolved-in-Some.ensures system agrees
    ∙ ap (resolved system) c.deref.ensures.value)
    ∙ leads system c.args.name.now _ _ _ (Some c.in-Some.target.items)
    (c.in_ok-kind.ensures system agrees) (sym c.may_link.ensures ∙ c.if-not-may_link.false)
    c.folder_of.ensures (c.in_ok-text.ensures system agrees) (rw c.in-Some.is at c.in_ok-target.ensures)

pub returns-in-None : goal.returns-in-None
returns-in-None c = λ system agrees. leads system c.args.name.now _ _ _ None
    (c.in_ok-kind.ensures system agrees) (sym c.may_link.ensures ∙ c.if-not-may_link.false)
    c.folder_of.ensures (c.in_ok-text.ensures system agrees) (rw c.in-None.is at c.in_ok-target.ensures)

pub answer_to-requires : goal.answer_to-requires
answer_to-requires c = λ system agrees. of_place refl (c.requires system agrees)

pub answer_to-requires-2 : goal.answer_to-requires-2
answer_to-requires-2 c = λ system agrees. of_place refl (c.requires system agrees)

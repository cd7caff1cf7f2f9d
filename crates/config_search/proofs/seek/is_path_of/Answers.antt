use Rattle.std.proofs.Common.{◌∙◌, List, ℕ, codes, refl, subst, sym}
use Rattle.config_search.specs.Questions.{Comes, also_opened, by_variable, of_place}
use Rattle.config_search.proofs.Names.{inside_root}
use Rattle.config_search.proofs.seek.is_path_of.Goals as goal

pub answer_to-requires : goal.answer_to-requires
answer_to-requires c = λ system agrees. rw c.opened.ensures (of_place refl (also_opened (c.requires.place system agrees)))

pub answer_to-requires-2 : goal.answer_to-requires-2
answer_to-requires-2 c = λ system agrees. of_place refl (subst (λ (name : List ℕ). Comes system c.args.lookup.now.folder.now name)
    (inside_root c.args.folder.now c.args.path.now (sym c.starts_with.ensures.value ∙ c.if-not-starts_with.false))
    (by_variable {variable = codes "PWD"} (c.requires.place system agrees) refl (c.requires.answer_to system agrees)))

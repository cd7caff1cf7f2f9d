use Rattle.config_search.specs.Search.{Inside}
use Rattle.config_search.specs.Shown.{git_dir_of}
use Rattle.config_search.specs.declared.answer.Outcome.TheVariants.{Refuses}
use Rattle.config_search.proofs.StageSteps.{does_told}
use Rattle.config_search.proofs.stages.refuse.Goals as goal

pub settle-requires : goal.settle-requires
settle-requires c = λ system agrees. let site = c.requires.right system agrees in
    does_told system c.args.lookup.now.folder.now c.args.site.now.start
    (Inside c.args.site.now.folder.name.now (git_dir_of c.args.site.now.git_dir)) (Refuses c.args.refusal) site.start
    site.sought (c.requires.refuses system agrees)

use Rattle.config_search.specs.Search.{Inside}
use Rattle.config_search.specs.Shown.{git_dir_of}
use Rattle.config_search.proofs.place.place_by_format.Goals as goal

pub returns-in-Some : goal.returns-in-Some
returns-in-Some c = λ system agrees shares trusted. rw c.in_ok-new.ensures
    ((rw c.in-Some.is at c.in_ok-refusal.ensures) system c.args.site.now.start.name.now
    (Inside c.args.site.now.folder.name.now (git_dir_of c.args.site.now.git_dir)) tt)

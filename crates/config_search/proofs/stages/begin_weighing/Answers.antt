use Rattle.std.proofs.Common.{◌++◌, append-nil, map}
use Rattle.config_search.specs.Files.{files_of_user}
use Rattle.config_search.specs.Shown.{file_of}
use Rattle.config_search.proofs.stages.begin_weighing.Goals as goal

pub returns : goal.returns
returns c = λ system agrees.
    let (first, of_system, same) = c.in_ok-files.ensures system agrees in (
      map file_of c.in_ok-files.files.items,
      (first, of_system, rw (append-nil (first ++ files_of_user system)) same),
      rw c.deref.ensures.value at (c.in_ok-new.ensures system agrees),
    )

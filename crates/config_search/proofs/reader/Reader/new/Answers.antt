use Rattle.std.proofs.Common.{refl}
use Rattle.config_file.proofs.Coming.{came_first}
use Rattle.config_search.specs.Reads.{HoldsFor}
use Rattle.config_search.proofs.reader.Reader.new.Goals as goal

pub returns-clause-begins : goal.returns-clause-begins
returns-clause-begins c = λ system folder known. (
  came_first (HoldsFor system folder c.args.source.is_file) known c.args.source.place
      c.args.source.text.now _ c.new.ensures,
  refl,
)

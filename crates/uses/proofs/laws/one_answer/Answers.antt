use Rattle.uses.proofs.OneAnswer.{one_found}
use Rattle.uses.proofs.laws.one_answer.Goals as goal

pub returns : goal.returns
returns g c files known first key a b one reads memory also is so =
    one_found g.V.Value.grammar g.V.TryRead.refusal reads (g.S.Files.contents files) known one first key a b memory also is
    so

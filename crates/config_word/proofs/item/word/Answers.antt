use Rattle.config_word.specs.Laws.Item.{item_reads}
use Rattle.config_word.proofs.item.word.Goals as goal

pub returns : goal.returns
returns c = item_reads c.args.input.now c.read_item.result c.read_item.ensures

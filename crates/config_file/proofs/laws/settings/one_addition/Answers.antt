use Rattle.config_file.proofs.OneAddition as lemma
use Rattle.config_file.proofs.laws.settings.one_addition.Goals as goal

pub returns-clause-whole : goal.returns-clause-whole
returns-clause-whole g c files known place text old a b r s =
    lemma.one_addition (g.S.Files.contents files) known place text old a b r s

pub returns-clause-cut : goal.returns-clause-cut
returns-clause-cut g c files known place text old a b e s =
    lemma.cut_addition (g.S.Files.contents files) known place text old a b e s

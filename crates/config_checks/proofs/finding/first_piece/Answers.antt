use Rattle.std.proofs.Common.{◌<◌, length}
use Rattle.bstr.proofs.lemmas.PieceLemmas.{size-within}
use Rattle.config_file.proofs.ShownTexts.{not_empty, shorter_rest}
use Rattle.config_checks.proofs.ShownLemmas.{shown_front}
use Rattle.config_checks.proofs.finding.first_piece.Goals as goal

pub split_at-requires : goal.split_at-requires
split_at-requires c = rw c.decode-character.ensures.size (size-within c.args.text.now)

pub returns : goal.returns
returns c =
    let some : 0 < length c.args.text.now = not_empty c.args.text.now c.if-is_empty.ensures in
    record {
      shown =
          rw (
            c.decode-character.ensures.char,
            c.split_at.ensures.front,
            c.split_at.ensures.back,
            c.decode-character.ensures.size,
          )
          (shown_front c.args.text.now some);
      shorter = rw (c.split_at.ensures.back, c.decode-character.ensures.size) (shorter_rest c.args.text.now some);
    }

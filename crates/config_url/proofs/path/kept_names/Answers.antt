use Rattle.std.proofs.Common.{map}
use Rattle.config_url.proofs.UrlPaths.{names_stop, names_end, names_more}
use Rattle.config_url.proofs.path.kept_names.Goals as goal

pub returns-then-not-branch : goal.returns-then-not-branch
returns-then-not-branch c =
    names_stop (map (λ n. n.now) c.names.kept.items) (map (λ n. n.now) c.keep.new.kept.items) c.cut_piece.result.0.now
    c.names.rest.now c.args.path.now _ c.cut_piece.ensures (rw c.if-not-branch.true at c.in_ok-keep.ensures)
    c.names.invariant

pub returns-in_default : goal.returns-in_default
returns-in_default c =
    names_end (map (λ n. n.now) c.names.kept.items) (map (λ n. n.now) c.keep.new.kept.items) c.cut_piece.result.0.now
    c.names.rest.now c.args.path.now (rw c.in_default.is at c.cut_piece.ensures)
    (rw c.if-not-branch.false at c.in_ok-keep.ensures) c.names.invariant

pub names-preserved : goal.names-preserved
names-preserved c =
    names_more (map (λ n. n.now) c.names.kept.items) (map (λ n. n.now) c.keep.new.kept.items) c.cut_piece.result.0.now
    c.names.rest.now c.in-Some.after.now c.args.path.now (rw c.in-Some.is at c.cut_piece.ensures)
    (rw c.if-not-branch.false at c.in_ok-keep.ensures) c.names.invariant

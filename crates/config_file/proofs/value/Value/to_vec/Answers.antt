use Rattle.std.proofs.Common.{Some, None, inl, inr, rules, refl}
use Rattle.config_file.proofs.Spelled.{blanks_next, quote_next, own_next, backslash_next}
use Rattle.config_file.proofs.value.Value.to_vec.Goals as goal

pub pieces-preserved-then-byte-eq34 : goal.pieces-preserved-then-byte-eq34
pieces-preserved-then-byte-eq34 c =
    record {
      fresh = inl refl;
      spells = λ spelled ending h.
          let (o, s) = c.pieces.invariant.spells spelled ending h in
          quote_next c.pieces.at.now c.in-Some.ensures c.if-byte-eq34.true c.in_ok-push_held.ensures s;
    }

pub pieces-preserved-in_ok-push : goal.pieces-preserved-in_ok-push
pieces-preserved-in_ok-push c =
    record {
      fresh = inl refl;
      spells = λ spelled ending h.
          let (o, s) = c.pieces.invariant.spells spelled ending h in
          backslash_next c.pieces.at.now c.in-Some.ensures (Some c.in-Some-escaped.escaped) c.if-byte-eq92.true c.in_ok-push_held.ensures
          (rw c.in-Some-escaped.is at c.unescape-escaped.ensures.unescaped) c.in_ok-push.ensures.items s;
    }

pub pieces-preserved-in_default-escaped : goal.pieces-preserved-in_default-escaped
pieces-preserved-in_default-escaped c =
    record {
      fresh = inl refl;
      spells = λ spelled ending h.
          let (o, s) = c.pieces.invariant.spells spelled ending h in
          backslash_next c.pieces.at.now c.in-Some.ensures None c.if-byte-eq92.true c.in_ok-push_held.ensures
          (rw c.in_default-escaped.is at c.unescape-escaped.ensures.unescaped) refl s;
    }

pub pieces-preserved : goal.pieces-preserved
pieces-preserved c =
    record {
      fresh = inl refl;
      spells = λ spelled ending h.
          let (o, s) = c.pieces.invariant.spells spelled ending h in
          own_next c.pieces.at.now c.in-Some.ensures (search rules) c.if-byte-eq34.false c.if-byte-eq92.false c.in_ok-push_held.ensures c.in_ok-push-2.ensures.items c.own_run.ensures c.in_ok-extend_from_slice.ensures.items s;
    }

pub pieces-preserved-then-is_held_back : goal.pieces-preserved-then-is_held_back
pieces-preserved-then-is_held_back c =
    record {
      fresh = inr c.run.ensures.longest;
      spells = λ spelled ending h.
          let (o, s) = c.pieces.invariant.spells spelled ending h in
          (o, blanks_next c.pieces.at.now c.in-Some.ensures (search rules) c.pieces.invariant.fresh c.run.ensures s);
    }

use Rattle.std.proofs.Common.{◌++◌, [], Err, List, Some, length, map, refl, subst, sym}
use Rattle.std.proofs.lemmas.List.{append_assoc, append-nil}
use Rattle.std.proofs.lemmas.Option.{slice_get_past, slice_get_read}
use Rattle.config_search.specs.Receiving.{nothing}
use Rattle.config_search.specs.Reads.{ReadEntry, with_scope}
use Rattle.config_search.specs.Reading.{IsAtDir, RoundsTo}
use Rattle.config_search.proofs.Readings.{each_both}
use Rattle.config_search.proofs.RoundSteps.{round_ends, text_halts, text_whole}
use Rattle.config_search.proofs.rounds.Round.read.Goals as goal

pub texts-init : goal.texts-init
texts-init g c = ([], nothing, λ system read agrees dirs is. rw (append-nil read) is)

pub returns-in_default-clause-reads : goal.returns-in_default-clause-reads
returns-in_default-clause-reads g c = λ kept.
    let (more, gets, comes) = c.texts.invariant in (
      more,
      gets,
      λ system opened read agrees dirs ends is.
          round_ends system c.args.start.now c.args.known.now c.args.texts.now opened c.texts.self
          (read ++ more) c.check_end.result
          (comes system read agrees dirs is) (slice_get_past c.args.texts.now.list.items c.texts.self.done
          ((rw (c.in_default.is, c.deref.ensures.value) at c.get.ensures.lookup).3))
          (c.check_end.ensures.ends opened ends),
    )

pub returns-in-Err-clause-reads : goal.returns-in-Err-clause-reads
returns-in-Err-clause-reads g c = λ kept.
    let (more, gets, comes) = c.texts.invariant in
    let (found, also, halts) = rw c.deref_mut.ensures.value at (c.in-Err.ensures.reads kept) in
    let got = rw c.deref.ensures.value at c.in-Some.ensures.lookup in (
      more ++ map (with_scope c.in_ok-reader.reader.value.source.scope) found,
      each_both gets also,
      λ system opened read agrees dirs ends is. subst (λ (all : List ReadEntry). RoundsTo system
          c.args.start.now
          c.args.known.now c.args.texts.now opened
          (record {
            done = c.texts.self.done;
            reader = Some (record {
              ptr = c.in_ok-reader.reader.ptr;
              alloc = c.in_ok-reader.reader.alloc;
              value = c.read.new.self;
            });
          }) all (Err c.in-Err.halt))
          (append_assoc read more (map (with_scope c.in_ok-reader.reader.value.source.scope) found))
          (text_halts system c.args.start.now c.args.known.now c.args.texts.now.list.items c.texts.self
          (read ++ more) c.in-Some.source.now
          c.in_ok-reader.reader (comes system read agrees dirs is)
          (slice_get_read c.args.texts.now.list.items (length c.args.texts.now.list.items)
          c.texts.self.done c.in-Some.source.now refl got.3.0 got.1)
          (rw c.take-begun.ensures.value at c.in_ok-reader.ensures) found c.args.texts.now refl opened
          (subst (IsAtDir system c.args.start.now) (sym got.1)
          (dirs c.texts.self.done c.in-Some.source.now got.3.0))
          (record {
            ptr = c.in_ok-reader.reader.ptr;
            alloc = c.in_ok-reader.reader.alloc;
            value = c.read.new.self;
          }) (record {
            done = c.texts.self.done;
            reader = Some
                (record {
                  ptr = c.in_ok-reader.reader.ptr;
                  alloc = c.in_ok-reader.reader.alloc;
                  value = c.read.new.self;
                });
          }) c.in-Err.halt
          (rw c.deref_mut.ensures.value at c.in-Err.ensures.source)
          (λ earlier come. halts system earlier agrees come) refl refl),
    )

pub texts-preserved : goal.texts-preserved
texts-preserved g c =
    let (more, gets, comes) = c.texts.invariant in
    let (found, also, walks) = rw c.deref_mut.ensures.value at (c.in-Ok.ensures.reads tt) in
    let got = rw c.deref.ensures.value at c.in-Some.ensures.lookup in (
      more ++ map (with_scope c.in_ok-reader.reader.value.source.scope) found,
      each_both gets also,
      λ system read agrees dirs is. rw (sym (append_assoc read more
          (map (with_scope c.in_ok-reader.reader.value.source.scope) found)))
          (text_whole system c.args.start.now c.args.known.now c.args.texts.now.list.items c.texts.self
          (read ++ more) c.in-Some.source.now
          c.in_ok-reader.reader (comes system read agrees dirs is)
          (slice_get_read c.args.texts.now.list.items (length c.args.texts.now.list.items)
          c.texts.self.done c.in-Some.source.now refl got.3.0 got.1)
          (rw c.take-begun.ensures.value at c.in_ok-reader.ensures) found
          (subst (IsAtDir system c.args.start.now) (sym got.1)
          (dirs c.texts.self.done c.in-Some.source.now got.3.0))
          c.read.new.self _ (rw c.deref_mut.ensures.value at c.in-Ok.ensures.source)
          (λ earlier come. walks system earlier agrees come)
          refl c.take-begun.ensures.after),
    )

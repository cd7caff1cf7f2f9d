use Rattle.std.proofs.Common.{◌∷◌, ◌+◌, [], drop, length, map, refl, rules, take}
use Rattle.std.proofs.lemmas.List.{take_all, map-append}
use Rattle.std.proofs.lemmas.List.Elements.{All-nil, All-push}
use Rattle.std.proofs.lemmas.Option.{slice_get_read}
use Rattle.config_search.specs.Reads.{no_file, read, missing}
use Rattle.config_search.specs.Reading.{IsAtDir, text_of}
use Rattle.config_search.specs.Shown.{file_of}
use Rattle.config_search.proofs.OpenedTexts.{and_after, and_next}
use Rattle.config_search.proofs.texts.open_files.Goals.{in-Some+in_ok-push, in_default}
use Rattle.config_search.proofs.texts.open_files.Goals as goal

pub files-init : goal.files-init
files-init c = (refl, λ system agrees. (rw c.new.ensures.items no_file, rw c.new.ensures.items (All-nil _)))

pub returns-in-Err-into_stop : goal.returns-in-Err-into_stop
returns-in-Err-into_stop c = c.in-Err-into_stop.ensures.asks c.args.lookup.now.folder.now
    c.args.lookup.now.facts.now c.in-Err.ensures.asks

pub returns-in-Ok-into_stop : goal.returns-in-Ok-into_stop
returns-in-Ok-into_stop c = λ system agrees.
    let (are, dirs) = c.files.invariant.1 system agrees in
    let (reason, refused, tells) = rw c.in-Ok-into_stop.ensures.same at
    (c.in-Err.ensures.opens system agrees) in (
      (
        map file_of (take c.files.file-index c.args.files.now),
        file_of c.file-item.result,
        map file_of (drop (c.files.file-index + 1) c.args.files.now),
        reason,
        and_after c.args.files.now c.files.file-index c.file-item.result (slice_get_read c.args.files.now
            (length c.args.files.now) c.files.file-index c.file-item.result refl (search rules)
            c.file-item.is),
        are,
        refused,
        tells,
      ),
      dirs,
    )

pub files-preserved : goal.files-preserved
files-preserved c =
    let next = and_next c.args.files.now c.files.file-index c.file-item.result
    (slice_get_read c.args.files.now
    (length c.args.files.now) c.files.file-index c.file-item.result refl (search rules) c.file-item.is) in
    elim c.match-found.branch [
      | in-Some+in_ok-push w ↦ rw w.texts-is (
        c.files.invariant.0,
        λ system agrees.
            let (are, dirs) = c.files.invariant.1 system agrees in
            let (is, dir) = rw w.in-Some.is at (c.in-Ok.ensures.opens system agrees) in
            rw (next, w.in_ok-push.ensures.pushed) (
              rw (map-append text_of c.files.texts.list.items (w.in-Some.source ∷ []))
                  (read (file_of c.file-item.result) (text_of w.in-Some.source) are is),
              All-push (IsAtDir system c.args.start.now) c.files.texts.list.items w.in-Some.source dirs dir,
            ),
      )
      | in_default w ↦ rw w.texts-is (
        c.files.invariant.0,
        λ system agrees.
            let (are, dirs) = c.files.invariant.1 system agrees in (
              rw next (missing (file_of c.file-item.result) are
                  (rw w.in_default.is at (c.in-Ok.ensures.opens system agrees))),
              dirs,
            ),
      )
    ]

pub returns : goal.returns
returns c = λ system agrees. let (are, dirs) = c.files.invariant.1 system agrees in (
  rw c.files.invariant.0 (rw (take_all c.files.file-index c.args.files.now c.files-test.false) at are),
  dirs,
)

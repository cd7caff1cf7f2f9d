use Rattle.std.proofs.Common.{◌∙◌, ap}
use Rattle.config_file.specs.KeyView.{key_of}
use Rattle.config_edit.proofs.Added.{added_inside, added_behind, NoPlaces}
use Rattle.config_edit.proofs.setting.added.Goals as goal
use Rattle.config_edit.proofs.setting.added.Goals.{in-Some+in_ok-push_inside-in-Some}
use Rattle.config_edit.proofs.setting.added.Goals.{in-None+in_ok-push_behind-in-None}

pub push_inside-requires : goal.push_inside-requires
push_inside-requires c =
    rw c.in-Some.is at c.find_places-places.ensures.within

pub returns : goal.returns
returns c = λ contents ends.
    let key = key_of c.args.key.now in
    let text = c.args.text.now in
    let value = c.args.value.now in
    let p = c.find_places-places.ensures.places contents ends in
    elim c.match-places.branch [
      | in-Some+in_ok-push_inside-in-Some w ↦
          let (front, feed, feed_at, cut, pushed) = w.in_ok-push_inside-in-Some.ensures in
          let is_place = rw w.in-Some.is at p.inside in
          added_inside value text c.match-places.new.items feed front {section = p.section}
          {place = w.in-Some.place} c.requires.name c.requires.spellable is_place.0 feed_at cut
          (ap (λ n. n.items) w.new-is ∙ pushed ∙ rw c.in_ok-new.ensures.items)
      | in-None+in_ok-push_behind-in-None w ↦
          let (feed, feed_at, pushed) = w.in_ok-push_behind-in-None.ensures in
          let (nothing, never) = rw w.in-None.is at p.inside in
          let places : NoPlaces key text contents c.find_places-places.result.end =
          record { parts = p.parts; cuts = p.cuts; are_ends = p.are_ends; nothing = nothing; never = never } in
          added_behind key value text c.match-places.new.items feed contents p.section c.find_places-places.result.end c.requires.name c.requires.spellable c.requires.section places p.closes feed_at (ap (λ n. n.items) w.new-is ∙ pushed ∙ rw c.in_ok-new.ensures.items)
    ]

use Rattle.std.proofs.Common.{ℕ, Bool, List, length, ◌≤◌}
use Rattle.config_file.specs.Walk.{Content, Item}
use Rattle.config_file.specs.Reading.Walks.{Left, Said}
use Rattle.config_file.proofs.walk.Walk.next.Given as goal

abbrev pub invariant-frames : goal.invariant-frames
invariant-frames l = ((answers : List (List ℕ × Content)) (items : List (List ℕ × Item)) (whole : Bool)
    → Left (Said answers) l.fn.known l.self.frames.items items whole
    → Left (Said answers) l.fn.known l.fn.self.frames.items items whole)
    × (length l.self.frames.items ≤ length l.fn.self.frames.items)

abbrev pub decreases-frames : goal.decreases-frames
decreases-frames l = length l.self.frames.items

-- The values of `push.default`: five words, one of which has an old name.
use Rattle.std.specs.Prelude.{◌≡◌, ℕ, ◌⊎◌, List, codes}
use Rattle.uses.specs.declared.push_default.PushDefault.{PushDefault}
use Rattle.uses.specs.declared.push_default.PushDefault.TheVariants.{Nothing, Current, Upstream, Simple}
use Rattle.uses.specs.declared.push_default.PushDefault.TheVariants.{Matching}

-- the texts of a value: its word, or the old name of `upstream`
abbrev pub PushDefaultText : List ℕ → PushDefault → Type 0
PushDefaultText t Nothing = t ≡ codes "nothing"
PushDefaultText t Current = t ≡ codes "current"
PushDefaultText t Upstream = (t ≡ codes "upstream") ⊎ (t ≡ codes "tracking")
PushDefaultText t Simple = t ≡ codes "simple"
PushDefaultText t Matching = t ≡ codes "matching"

-- how a value is shown
abbrev pub push_default_shown : PushDefault → List ℕ
push_default_shown Nothing = codes "nothing"
push_default_shown Current = codes "current"
push_default_shown Upstream = codes "upstream"
push_default_shown Simple = codes "simple"
push_default_shown Matching = codes "matching"

-- the canonical texts: the five words, without the old name
abbrev pub CanonicalPushDefault : List ℕ → Type 0
CanonicalPushDefault t = (t ≡ codes "nothing") ⊎ (t ≡ codes "current") ⊎ (t ≡ codes "upstream")
    ⊎ (t ≡ codes "simple")
    ⊎ (t ≡ codes "matching")

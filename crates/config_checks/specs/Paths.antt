-- Paths, which may begin with a home directory.
use Rattle.std.specs.Prelude.{◌≡◌, ℕ, List, Bool, false, Option, None, Some, IsUtf8}
use Rattle.config_path.specs.Interpolation.{Form, HasForm}
use Rattle.config_path.specs.Interpolation.Form.{below_home, below_user}
use Rattle.config_path.specs.Passwd.{home_in}
use Rattle.config_path.specs.Path.{Marked}
use Rattle.config_checks.specs.declared.paths.KnownUsers.{KnownUsers}

-- a path of this form begins with a home directory that these users do not have; no name that is not UTF-8 has one
abbrev pub LacksHome : KnownUsers → Form → Type 0
LacksHome users (below_home rest) = users.has_home ≡ false
LacksHome users (below_user name rest) = IsUtf8 name → home_in users.passwd.now name ≡ None
LacksHome users _ = ⊥

-- the text is a path of this form, which the mark of an optional path may precede
abbrev pub IsPathOfForm : List ℕ → Form → Type 0
IsPathOfForm t form = (is_optional : Bool) × (path : List ℕ) × Marked t is_optional path × HasForm path form

-- the path begins with a home directory that is not there; if no users are known, no path does
abbrev pub IsHomeless : Option KnownUsers → List ℕ → Type 0
IsHomeless None t = ⊥
IsHomeless (Some users) t = (form : Form) × IsPathOfForm t form × LacksHome users form

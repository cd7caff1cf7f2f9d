-- The names of included files.
use Rattle.std.proofs.Common.{◌≡◌, ℕ, List, ◌++◌, codes}
use Rattle.config_text.specs.Bytes.{LacksFront}
use Rattle.config_file.specs.Path.{IsIncludedName, absolute, relative, directory}

pub absolute_name : (file path rest name : List ℕ) → path ≡ codes "/" ++ rest → name ≡ path
    → IsIncludedName file path name
absolute_name file path rest name e n = absolute rest e n

pub relative_name : (file path name : List ℕ) → LacksFront (codes "/") path → name ≡ directory file ++ path
    → IsIncludedName file path name
relative_name file path name lacks n = relative lacks n

-- White space: the 25 code points that Unicode takes for white space, each with its bytes in UTF-8.
--
-- Look for (here and in Words): 25 spellings. The last white space is the one after which there is no
-- other; `piece` drops empty words.
use Rattle.std.specs.Prelude.{ℕ, List, [], ◌∷◌}
use Rattle.config_text.specs.OneOf.{OneOf}

-- U+0009 to U+000D, U+0020, U+0085, U+00A0, U+1680, U+2000 to U+200A, U+2028, U+2029, U+202F, U+205F, U+3000
unfoldable pub spellings : List (List ℕ)
spellings =
    (9 ∷ []) ∷ (10 ∷ []) ∷ (11 ∷ []) ∷ (12 ∷ []) ∷ (13 ∷ [])
    ∷ (32 ∷ [])
    ∷ (0xc2 ∷ 0x85 ∷ [])
    ∷ (0xc2 ∷ 0xa0 ∷ [])
    ∷ (0xe1 ∷ 0x9a ∷ 0x80 ∷ [])
    ∷ (0xe2 ∷ 0x80 ∷ 0x80 ∷ []) ∷ (0xe2 ∷ 0x80 ∷ 0x81 ∷ []) ∷ (0xe2 ∷ 0x80 ∷ 0x82 ∷ [])
    ∷ (0xe2 ∷ 0x80 ∷ 0x83 ∷ [])
    ∷ (0xe2 ∷ 0x80 ∷ 0x84 ∷ []) ∷ (0xe2 ∷ 0x80 ∷ 0x85 ∷ []) ∷ (0xe2 ∷ 0x80 ∷ 0x86 ∷ [])
    ∷ (0xe2 ∷ 0x80 ∷ 0x87 ∷ [])
    ∷ (0xe2 ∷ 0x80 ∷ 0x88 ∷ []) ∷ (0xe2 ∷ 0x80 ∷ 0x89 ∷ []) ∷ (0xe2 ∷ 0x80 ∷ 0x8a ∷ [])
    ∷ (0xe2 ∷ 0x80 ∷ 0xa8 ∷ [])
    ∷ (0xe2 ∷ 0x80 ∷ 0xa9 ∷ [])
    ∷ (0xe2 ∷ 0x80 ∷ 0xaf ∷ [])
    ∷ (0xe2 ∷ 0x81 ∷ 0x9f ∷ [])
    ∷ (0xe3 ∷ 0x80 ∷ 0x80 ∷ [])
    ∷ []

-- the text is a spelling of white space
abbrev pub Space : List ℕ → Type 0
unfolding spellings
Space text = OneOf spellings text

-- What git-config(1) says about colors, with its own examples, what ECMA-48, xterm and terminals say about
-- them, and what Unicode says about white space. A definition with a wrong rule, number or spelling fails
-- here.
use Rattle.std.proofs.Common.{◌≡◌, ◌≤◌, ℕ, ◌+◌, ◌*◌, true, false, ◌==◌, eqb, List, [], ◌∷◌, ◌++◌, map, codes}
use Rattle.std.proofs.Common.{Option, Some, None, refl, inl, inr, arith, length, length-append}
use Prim.Native.String.{String}
use Rattle.std.specs.Bool.{⊤}
use Rattle.std.specs.Char.{is_whitespace}
use Rattle.std.specs.Fmt.{digits}
use Rattle.std.specs.Int.RustNames.{bit_or}
use Rattle.std.specs.List.{list_any, ends_with}
use Rattle.std.proofs.lemmas.Bool.{agree_below}
use lib.Utf8.{encode}
use Rattle.config_color.specs.declared.color.Color.{Color}
use Rattle.config_color.specs.Color.{ColorText}
use Rattle.config_color.specs.Depth.{palette, replaced, shade, xterm_colors}
use Rattle.config_color.specs.Escape.{escape_sequence, attribute_codes}
use Rattle.config_color.specs.Space.{spellings}
use Rattle.config_color.specs.Terminal.{DecidesFirst, depth_rules, HasWord}
use Rattle.config_color.specs.declared.depth.Depth.{Depth}
use Rattle.config_color.specs.declared.depth.Depth.TheVariants.{Ansi16, Ansi256, TrueColor}
use Rattle.config_color.specs.declared.depth.Shade.{Shade}
use Rattle.config_color.proofs.Deciding.{ends_told, refuted}
use Rattle.config_color.specs.Laws.Color.{color_of-value}
use Rattle.config_color.proofs.OnLiterals.{color_on_literals}
use Rattle.config_word.specs.declared.attribute.Attribute.{Attribute}
use Rattle.config_word.specs.declared.attribute.TheConstants.Attribute.{BOLD, DIM, UL, BLINK, REVERSE, ITALIC}
use Rattle.config_word.specs.declared.attribute.TheConstants.Attribute.{STRIKE, RESET, NO_BOLD, NO_DIM, NO_UL}
use Rattle.config_word.specs.declared.attribute.TheConstants.Attribute.{NO_BLINK, NO_REVERSE, NO_ITALIC}
use Rattle.config_word.specs.declared.attribute.TheConstants.Attribute.{NO_STRIKE}
use Rattle.config_word.specs.declared.name.Name.{Name}
use Rattle.config_word.specs.declared.name.Name.TheVariants.{Normal, Default, Black, BrightBlack, Red}
use Rattle.config_word.specs.declared.name.Name.TheVariants.{BrightRed, Green, BrightGreen, Yellow}
use Rattle.config_word.specs.declared.name.Name.TheVariants.{BrightYellow, Blue, BrightBlue, Magenta}
use Rattle.config_word.specs.declared.name.Name.TheVariants.{BrightMagenta, Cyan, BrightCyan, White}
use Rattle.config_word.specs.declared.name.Name.TheVariants.{BrightWhite, Ansi, Rgb}
use Rattle.config_text.proofs.OnLiterals.{AreRead, AreRefused, all_read, all_refused}

-- no attribute, and two at once
abbrev plain : Attribute
plain = record { 0 = 0 }

abbrev both : Attribute → Attribute → Attribute
both a b = record { 0 = bit_or a.0 b.0 }

abbrev color : Option Name → Option Name → Attribute → Color
color f b a = record { foreground = f; background = b; attributes = a }

-- "The first color given is the foreground; the second is the background"
abbrev colors : List (List ℕ × Color)
colors =
    (codes "black", color (Some Black) None plain)
    ∷ (codes "red blue", color (Some Red) (Some Blue) plain)
    ∷ (codes "normal red", color (Some Normal) (Some Red) plain)
    ∷ (codes "red #ff0ab3", color (Some Red) (Some (Rgb 255 10 179)) plain)
    ∷ []

pub colors_are_read : AreRead ColorText colors
unfolding color_on_literals
colors_are_read = all_read color_of-value colors refl

-- "The position of any attributes with respect to the colors (before, after, or in between), doesn't matter"
abbrev attributes_anywhere : List (List ℕ × Color)
attributes_anywhere =
    (codes "bold ul red blue", color (Some Red) (Some Blue) (both BOLD UL))
    ∷ (codes "red bold ul blue", color (Some Red) (Some Blue) (both BOLD UL))
    ∷ (codes "red blue bold ul", color (Some Red) (Some Blue) (both BOLD UL))
    ∷ (codes "ul red blue bold", color (Some Red) (Some Blue) (both BOLD UL))
    ∷ (codes "bold", color None None BOLD)
    ∷ (codes "noreverse brightred", color (Some BrightRed) None NO_REVERSE)
    ∷ (codes "reset green", color (Some Green) None RESET)
    ∷ []

pub attributes_anywhere_are_read : AreRead ColorText attributes_anywhere
unfolding color_on_literals
attributes_anywhere_are_read = all_read color_of-value attributes_anywhere refl

-- "An empty color string produces no color effect at all"
abbrev empty_colors : List (List ℕ × Color)
empty_colors = (codes "", color None None plain) ∷ (codes " ", color None None plain) ∷ []

pub empty_colors_are_read : AreRead ColorText empty_colors
unfolding color_on_literals
empty_colors_are_read = all_read color_of-value empty_colors refl

-- "at most two, one for foreground and one for background", and words that are neither names nor attributes
abbrev no_colors : List (List ℕ)
no_colors = codes "red green blue" ∷ codes "bold rde" ∷ codes "red,blue" ∷ codes "brightnormal" ∷ []

pub no_colors_are_refused : AreRefused ColorText no_colors
unfolding color_on_literals
no_colors_are_refused = all_refused color_of-value no_colors refl

-- the code points that are white space in Unicode, U+0009 to U+3000
abbrev white_space : List ℕ
white_space =
    0x9 ∷ 0xa ∷ 0xb ∷ 0xc ∷ 0xd ∷ 0x20 ∷ 0x85 ∷ 0xa0 ∷ 0x1680
    ∷ 0x2000 ∷ 0x2001 ∷ 0x2002 ∷ 0x2003 ∷ 0x2004 ∷ 0x2005 ∷ 0x2006 ∷ 0x2007 ∷ 0x2008 ∷ 0x2009 ∷ 0x200a
    ∷ 0x2028 ∷ 0x2029 ∷ 0x202f ∷ 0x205f ∷ 0x3000
    ∷ []

-- the spellings are these code points in UTF-8
pub white_space_is_spelled : spellings ≡ map encode white_space
unfolding spellings encode
white_space_is_spelled = refl

-- up to U+3000, `char::is_whitespace` returns true for exactly these code points
pub white_space_is_whole : agree_below is_whitespace (λ c. list_any (λ w. w == c) white_space) 0x3001 ≡ true
white_space_is_whole = refl

-- ---- what is written to a terminal

-- ECMA-48: CSI, these parameters, and the final byte of SGR
abbrev graphics : String → List ℕ
graphics parameters = 27 ∷ codes "[" ++ codes parameters ++ codes "m"

-- SGR: bold 1, faint 2, italicized 3, underlined 4, blinking 5, negative image 7, crossed-out 9; 22 is
-- neither bold nor faint, and 23 to 29 end the others. Git writes no parameter for reset.
abbrev attributes_written : List (Attribute × String)
attributes_written =
    (RESET, "") ∷ (BOLD, "1") ∷ (DIM, "2") ∷ (ITALIC, "3") ∷ (UL, "4") ∷ (BLINK, "5") ∷ (REVERSE, "7")
    ∷ (STRIKE, "9")
    ∷ (NO_BOLD, "22") ∷ (NO_DIM, "22") ∷ (both NO_BOLD NO_DIM, "22") ∷ (NO_ITALIC, "23") ∷ (NO_UL, "24")
    ∷ (NO_BLINK, "25") ∷ (NO_REVERSE, "27") ∷ (NO_STRIKE, "29") ∷ (both RESET BOLD, ";1") ∷ []

pub attributes_are_written : map (λ row. escape_sequence (color None None row.0)) attributes_written
    ≡ map (λ row. graphics row.1) attributes_written
unfolding attribute_codes
attributes_are_written = refl

-- SGR: 30 to 37 are foregrounds, 40 to 47 backgrounds, and 39 and 49 the default. Terminals have the bright
-- ones from 90 and from 100 on, and 38 and 48 before a number of the palette (5) or before parts (2).
abbrev names_written : List (Name × String)
names_written =
    (Default, "39;49") ∷ (Black, "30;40") ∷ (Red, "31;41") ∷ (Green, "32;42") ∷ (Yellow, "33;43") ∷ (Blue, "34;44")
    ∷ (Magenta, "35;45") ∷ (Cyan, "36;46") ∷ (White, "37;47")
    ∷ (BrightBlack, "90;100") ∷ (BrightRed, "91;101") ∷ (BrightGreen, "92;102") ∷ (BrightYellow, "93;103")
    ∷ (BrightBlue, "94;104") ∷ (BrightMagenta, "95;105") ∷ (BrightCyan, "96;106") ∷ (BrightWhite, "97;107")
    ∷ (Ansi 7, "37;47") ∷ (Ansi 8, "90;100") ∷ (Ansi 15, "97;107") ∷ (Ansi 16, "38;5;16;48;5;16")
    ∷ (Ansi 255, "38;5;255;48;5;255") ∷ (Rgb 255 10 179, "38;2;255;10;179;48;2;255;10;179") ∷ []

pub names_are_written : map (λ row. escape_sequence (color (Some row.0) (Some row.0) plain)) names_written
    ≡ map (λ row. graphics row.1) names_written
unfolding attribute_codes digits
names_are_written = refl

-- `bold red 208`, and colors without an effect
pub colors_are_written : (escape_sequence (color (Some Red) (Some (Ansi 208)) BOLD) ≡ graphics "1;31;48;5;208")
    × (escape_sequence (color (Some Normal) (Some Normal) plain) ≡ [])
    × (escape_sequence (color None None plain) ≡ [])
unfolding attribute_codes digits
colors_are_written = (refl, refl, refl)

-- ---- fewer colors

abbrev packed : Shade → ℕ
packed s = (s.red * 256 + s.green) * 256 + s.blue

-- the resources color0 to color15 of xterm(1), and some of the cube and the grays of its 256 colors
abbrev shades : List (ℕ × ℕ)
shades =
    (0, 0x000000) ∷ (1, 0xCD0000) ∷ (2, 0x00CD00) ∷ (3, 0xCDCD00) ∷ (4, 0x0000EE) ∷ (5, 0xCD00CD) ∷ (6, 0x00CDCD)
    ∷ (7, 0xE5E5E5) ∷ (8, 0x7F7F7F) ∷ (9, 0xFF0000) ∷ (10, 0x00FF00) ∷ (11, 0xFFFF00) ∷ (12, 0x5C5CFF)
    ∷ (13, 0xFF00FF) ∷ (14, 0x00FFFF) ∷ (15, 0xFFFFFF)
    ∷ (16, 0x000000) ∷ (17, 0x00005F) ∷ (67, 0x5F87AF) ∷ (208, 0xFF8700) ∷ (231, 0xFFFFFF)
    ∷ (232, 0x080808) ∷ (255, 0xEEEEEE) ∷ []

pub palette_is_of_xterm : map (λ row. packed (palette row.0)) shades ≡ map (λ row. row.1) shades
unfolding xterm_colors
palette_is_of_xterm = refl

-- a terminal with 16 colors has the numbers up to 15, and one with 256 all numbers
abbrev depths : List (Depth × Name × Option Shade)
depths =
    (Ansi16, Ansi 8, None) ∷ (Ansi16, Ansi 15, None) ∷ (Ansi16, Ansi 16, Some (shade 0 0 0))
    ∷ (Ansi16, Ansi 255, Some (shade 238 238 238)) ∷ (Ansi16, Rgb 1 2 3, Some (shade 1 2 3))
    ∷ (Ansi16, BrightWhite, None)
    ∷ (Ansi256, Ansi 255, None) ∷ (Ansi256, Rgb 1 2 3, Some (shade 1 2 3)) ∷ (TrueColor, Rgb 1 2 3, None) ∷ []

pub names_are_replaced : map (λ row. replaced row.0 row.1) depths ≡ map (λ row. row.2) depths
unfolding xterm_colors
names_are_replaced = refl

-- ---- terminals

abbrev text : Option String → Option (List ℕ)
text None = None
text (Some t) = Some (codes t)

-- what is decided for a terminal with these variables `NO_COLOR`, `TERM` and `COLORTERM`
abbrev Decides : (no_color term colorterm : Option String) → Option Depth → Type 0
Decides no_color term colorterm = DecidesFirst (depth_rules true (text no_color) (text term) (text colorterm))

-- terminfo(5) has `dumb`, a terminal without abilities, and Git asks for nothing else. "NO_COLOR .. when present
-- and not an empty string (regardless of its value), prevents the addition of ANSI color"
pub no_colors_are_decided : Decides None (Some "dumb") (Some "truecolor") None
    × Decides None None None None
    × Decides (Some "0") (Some "vt100") None None
no_colors_are_decided = (
  inr (λ e. cc (e), inr (λ h. h, inl (inr refl, refl))),
  inr (λ e. cc (e), inr (λ h. h, inl (inl refl, refl))),
  inr (λ e. cc (e), inl (λ e. cc (e), refl)),
)

-- a terminal that has abilities, whose name does not end in `-direct`
named : (term : List ℕ) (d : Option Depth) → ¬ (Some term ≡ Some (codes "dumb"))
    → ends_with eqb term (codes "-direct") ≡ false
    → DecidesFirst ((HasWord (codes "256color") term, Some Ansi256) ∷ (⊤, Some Ansi16) ∷ []) d
    → DecidesFirst (depth_rules true None (Some term) None) d
named term d able indirect rest =
    inr (
      λ e. cc (e),
      inr (
        λ h. h,
        inr (
          λ h. elim h [ inl e ↦ cc | inr e ↦ able e ],
          inr (λ h. elim h [ inl e ↦ cc | inr e ↦ cc ], inr (refuted _ _ (ends_told term _ _ refl) indirect, rest)),
        ),
      ),
    )

longer : (t front word back : List ℕ) → t ≡ front ++ word ++ back → length word ≤ length t
longer t front word back e = rw e (simp length-append (omega arith))

-- names of terminfo(5)
pub colors_are_decided : Decides None (Some "vt100") None (Some Ansi16)
    × Decides None (Some "xterm-256color") None (Some Ansi256)
colors_are_decided = (
  named (codes "vt100") _ (λ e. cc (e)) refl (inr (lacks, inl (tt, refl))),
  named (codes "xterm-256color") _ (λ e. cc (e)) refl (inl ((codes "xterm-", [], refl), refl)),
) where
  lacks : ¬ (HasWord (codes "256color") (codes "vt100"))
  lacks h = let n = longer (codes "vt100") h.0 (codes "256color") h.1 h.2 in omega (arith, n)

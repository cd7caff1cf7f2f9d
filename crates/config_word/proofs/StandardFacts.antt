-- What git-config(1) says about the words of colors. A definition with a wrong word, number or bit fails
-- here. All words are listed here, and each attribute with the constant that has its name in the code.
use Rattle.std.proofs.Common.{◌≡◌, ℕ, List, [], ◌∷◌, ◌++◌, map, codes, refl}
use Rattle.config_word.specs.declared.attribute.Attribute.{Attribute}
use Rattle.config_word.specs.declared.attribute.TheConstants.Attribute.{BOLD, DIM, UL, BLINK, REVERSE, ITALIC}
use Rattle.config_word.specs.declared.attribute.TheConstants.Attribute.{STRIKE, RESET, NO_BOLD, NO_DIM, NO_UL}
use Rattle.config_word.specs.declared.attribute.TheConstants.Attribute.{NO_BLINK, NO_REVERSE, NO_ITALIC}
use Rattle.config_word.specs.declared.attribute.TheConstants.Attribute.{NO_STRIKE}
use Rattle.config_word.specs.declared.name.Name.{Name}
use Rattle.config_word.specs.declared.name.Name.TheVariants.{Normal, Default, Black, BrightBlack, Red}
use Rattle.config_word.specs.declared.name.Name.TheVariants.{BrightRed, Green, BrightGreen, Yellow}
use Rattle.config_word.specs.declared.name.Name.TheVariants.{BrightYellow, Blue, BrightBlue, Magenta}
use Rattle.config_word.specs.declared.name.Name.TheVariants.{BrightMagenta, Cyan, BrightCyan, White}
use Rattle.config_word.specs.declared.name.Name.TheVariants.{BrightWhite, Ansi, Rgb}
use Rattle.config_word.specs.Attribute.{AttributeText, attributes, attribute_shown}
use Rattle.config_word.specs.Item.{ItemText}
use Rattle.config_word.specs.Name.{NameText, name_shown}
use Rattle.config_word.specs.Reading.Attribute.{opposite_rows}
use Rattle.config_word.specs.Laws.Item.{item-law, name-law, attribute-law}
use Rattle.config_word.proofs.OnLiterals.{item_on_literals}
use Rattle.config_text.proofs.OnLiterals.{AreRead, AreRefused, all_read, all_refused}

-- "The basic colors accepted are normal, black, red, green, yellow, blue, magenta, cyan, white and default"
abbrev basic_colors : List (List ℕ × Name)
basic_colors =
    (codes "normal", Normal)
    ∷ (codes "black", Black)
    ∷ (codes "red", Red)
    ∷ (codes "green", Green)
    ∷ (codes "yellow", Yellow)
    ∷ (codes "blue", Blue)
    ∷ (codes "magenta", Magenta)
    ∷ (codes "cyan", Cyan)
    ∷ (codes "white", White)
    ∷ (codes "default", Default)
    ∷ []

pub basic_colors_are_read : AreRead NameText basic_colors
unfolding item_on_literals
basic_colors_are_read = all_read name-law basic_colors refl

-- "All the basic colors except normal and default have a bright variant .., like brightred"
abbrev bright_colors : List (List ℕ × Name)
bright_colors =
    (codes "brightblack", BrightBlack)
    ∷ (codes "brightred", BrightRed)
    ∷ (codes "brightgreen", BrightGreen)
    ∷ (codes "brightyellow", BrightYellow)
    ∷ (codes "brightblue", BrightBlue)
    ∷ (codes "brightmagenta", BrightMagenta)
    ∷ (codes "brightcyan", BrightCyan)
    ∷ (codes "brightwhite", BrightWhite)
    ∷ []

pub bright_colors_are_read : AreRead NameText bright_colors
unfolding item_on_literals
bright_colors_are_read = all_read name-law bright_colors refl

-- each of these names is shown as its word
pub names_are_shown : map (λ row. name_shown row.1) (basic_colors ++ bright_colors)
    ≡ map (λ row. row.0) (basic_colors ++ bright_colors)
names_are_shown = refl

-- "numbers between 0 and 255", and "24-bit RGB values as hex, like #ff0ab3". Not on that page: `#f1b` is
-- `#ff11bb`, since Git 2.46, and `-1` is normal.
abbrev numbered_colors : List (List ℕ × Name)
numbered_colors =
    (codes "0", Ansi 0)
    ∷ (codes "255", Ansi 255)
    ∷ (codes "#ff0ab3", Rgb 255 10 179)
    ∷ (codes "#f1b", Rgb 255 17 187)
    ∷ (codes "#ff11bb", Rgb 255 17 187)
    ∷ (codes "-1", Normal)
    ∷ []

pub numbered_colors_are_read : AreRead NameText numbered_colors
unfolding item_on_literals
numbered_colors_are_read = all_read name-law numbered_colors refl

-- "The accepted attributes are bold, dim, ul, blink, reverse, italic, and strike", and the "pseudo-attribute
-- reset"
abbrev attributes_set : List (List ℕ × Attribute)
attributes_set =
    (codes "bold", BOLD)
    ∷ (codes "dim", DIM)
    ∷ (codes "ul", UL)
    ∷ (codes "blink", BLINK)
    ∷ (codes "reverse", REVERSE)
    ∷ (codes "italic", ITALIC)
    ∷ (codes "strike", STRIKE)
    ∷ (codes "reset", RESET)
    ∷ []

pub attributes_set_are_read : AreRead AttributeText attributes_set
unfolding item_on_literals
attributes_set_are_read = all_read attribute-law attributes_set refl

-- "turned off by prefixing them with no or no- (e.g., noreverse, no-ul, etc)"
abbrev attributes_unset : List (List ℕ × Attribute)
attributes_unset =
    (codes "nobold", NO_BOLD)
    ∷ (codes "no-bold", NO_BOLD)
    ∷ (codes "nodim", NO_DIM)
    ∷ (codes "no-dim", NO_DIM)
    ∷ (codes "noul", NO_UL)
    ∷ (codes "no-ul", NO_UL)
    ∷ (codes "noblink", NO_BLINK)
    ∷ (codes "no-blink", NO_BLINK)
    ∷ (codes "noreverse", NO_REVERSE)
    ∷ (codes "no-reverse", NO_REVERSE)
    ∷ (codes "noitalic", NO_ITALIC)
    ∷ (codes "no-italic", NO_ITALIC)
    ∷ (codes "nostrike", NO_STRIKE)
    ∷ (codes "no-strike", NO_STRIKE)
    ∷ []

pub attributes_unset_are_read : AreRead AttributeText attributes_unset
unfolding item_on_literals
attributes_unset_are_read = all_read attribute-law attributes_unset refl

-- not on that page: the bit of each attribute, and the word that it is shown as, are those of the Rust crate; the
-- last part is its opposite, or no attribute if it has none
abbrev constants : List (Attribute × ℕ × List ℕ × Attribute)
constants =
    (BOLD, 0x2, codes "bold", NO_BOLD)
    ∷ (DIM, 0x4, codes "dim", NO_DIM)
    ∷ (ITALIC, 0x8, codes "italic", NO_ITALIC)
    ∷ (UL, 0x10, codes "ul", NO_UL)
    ∷ (BLINK, 0x20, codes "blink", NO_BLINK)
    ∷ (REVERSE, 0x40, codes "reverse", NO_REVERSE)
    ∷ (STRIKE, 0x80, codes "strike", NO_STRIKE)
    ∷ (RESET, 0x100, codes "reset", record { 0 = 0 })
    ∷ (NO_DIM, 0x200000, codes "nodim", DIM)
    ∷ (NO_BOLD, 0x400000, codes "nobold", BOLD)
    ∷ (NO_ITALIC, 0x800000, codes "noitalic", ITALIC)
    ∷ (NO_UL, 0x1000000, codes "noul", UL)
    ∷ (NO_BLINK, 0x2000000, codes "noblink", BLINK)
    ∷ (NO_REVERSE, 0x4000000, codes "noreverse", REVERSE)
    ∷ (NO_STRIKE, 0x8000000, codes "nostrike", STRIKE)
    ∷ []

pub bits_are_kept : map (λ row. row.0.0) constants ≡ map (λ row. row.1) constants
bits_are_kept = refl

pub attributes_are_shown : map (λ row. attribute_shown row.0.0) constants ≡ map (λ row. row.2) constants
unfolding attributes
attributes_are_shown = refl

pub opposites_are_told : opposite_rows ≡ map (λ row. (row.0.0, row.3.0)) constants
unfolding attributes
opposites_are_told = refl

-- "except normal and default"; a number above 255; five digits; a bright attribute; `reset` turned off; the
-- empty text
abbrev no_words : List (List ℕ)
no_words =
    codes "brightnormal" ∷ codes "brightdefault" ∷ codes "256" ∷ codes "#ff0ab" ∷ codes "brightbold"
    ∷ codes "noreset"
    ∷ codes "" ∷ []

pub no_words_are_refused : AreRefused ItemText no_words
unfolding item_on_literals
no_words_are_refused = all_refused item-law no_words refl

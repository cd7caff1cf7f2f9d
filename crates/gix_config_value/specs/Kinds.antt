-- The kinds of value: each has a name, values, a grammar, a canonical grammar, and reasons why a text is
-- refused.
use Rattle.std.specs.Prelude.{◌≡◌, ◌≢◌, ℕ, List, codes, Option, None, Some, Result, Ok, Err}
use Rattle.gix_config_value.specs.declared.kind.Kind.{Kind}
use Rattle.gix_config_value.specs.declared.kind.Kind.TheVariants as kinds
use Rattle.gix_config_value.specs.declared.refusal.Refusal.{Refusal}
use Rattle.gix_config_value.specs.declared.refusal.Refusal.TheVariants as refusals
use Rattle.config_text.specs.declared.errors.Fault.{Fault}
use Rattle.config_text.specs.declared.errors.Fault.TheVariants as faults
use Rattle.config_text.specs.Faults.{fault_text}
use Rattle.config_text.specs.Refusals.{OnlyFault}
use Rattle.config_text.specs.Value.{IsAccepted, IsRefused}
use Rattle.config_integer.specs.declared.suffix.Suffix as suffix
use Rattle.config_integer.specs.declared.integer.Integer as integer
use Rattle.config_integer.specs.declared.amount.Amount as amount
use Rattle.config_boolean.specs.declared.boolean.Boolean as boolean
use Rattle.config_word.specs.declared.name.Name as name
use Rattle.config_word.specs.declared.attribute.Attribute as attribute
use Rattle.config_color.specs.declared.color.Color as color
use Rattle.config_integer.specs.Suffix.{SuffixText, CanonicalSuffix}
use Rattle.config_integer.specs.Integer.{IntegerText, CanonicalInteger}
use Rattle.config_integer.specs.Amount.{AmountText, CanonicalAmount, AmountFault}
use Rattle.config_boolean.specs.Boolean.{BooleanText, CanonicalBoolean}
use Rattle.config_word.specs.Name.{NameText, CanonicalName}
use Rattle.config_word.specs.Attribute.{AttributeText, CanonicalAttribute}
use Rattle.config_color.specs.Color.{ColorText, CanonicalColor}

-- the name of a kind, with which a line begins
abbrev pub kind_name : Kind → List ℕ
kind_name kinds.Suffix = codes "suffix"
kind_name kinds.Integer = codes "integer"
kind_name kinds.Amount = codes "amount"
kind_name kinds.Boolean = codes "boolean"
kind_name kinds.Name = codes "name"
kind_name kinds.Attribute = codes "attribute"
kind_name kinds.Color = codes "color"

-- the result is the kind with this name, or an error if no kind has it
abbrev pub NamesKind : {E : Type 0} → List ℕ → Result Kind E → Type 0
NamesKind t (Ok kind) = kind_name kind ≡ t
NamesKind t (Err e) = (kind : Kind) → kind_name kind ≢ t

-- the values of a kind
abbrev pub KindValue : Kind → Type 0
KindValue kinds.Suffix = suffix.Suffix
KindValue kinds.Integer = integer.Integer
KindValue kinds.Amount = amount.Amount
KindValue kinds.Boolean = boolean.Boolean
KindValue kinds.Name = name.Name
KindValue kinds.Attribute = attribute.Attribute
KindValue kinds.Color = color.Color

-- which texts read to which values
abbrev pub KindGrammar : (kind : Kind) → List ℕ → KindValue kind → Type 0
KindGrammar kinds.Suffix = SuffixText
KindGrammar kinds.Integer = IntegerText
KindGrammar kinds.Amount = AmountText
KindGrammar kinds.Boolean = BooleanText
KindGrammar kinds.Name = NameText
KindGrammar kinds.Attribute = AttributeText
KindGrammar kinds.Color = ColorText

-- the canonical texts of a kind
abbrev pub KindCanonical : Kind → List ℕ → Type 0
KindCanonical kinds.Suffix = CanonicalSuffix
KindCanonical kinds.Integer = CanonicalInteger
KindCanonical kinds.Amount = CanonicalAmount
KindCanonical kinds.Boolean = CanonicalBoolean
KindCanonical kinds.Name = CanonicalName
KindCanonical kinds.Attribute = CanonicalAttribute
KindCanonical kinds.Color = CanonicalColor

-- the reason is a fault, and one with which the reader may refuse the text
abbrev pub IsFaultOf : (Fault → Type 0) → Refusal → Type 0
IsFaultOf refusal refusals.Suffix = ⊥
IsFaultOf refusal (refusals.Fault fault) = refusal fault

-- the reason for which a kind refuses a text: a fault of its reader, or `Suffix` if the kind is suffixes
abbrev pub KindRefusal : Kind → List ℕ → Refusal → Type 0
KindRefusal kinds.Suffix t = λ r. r ≡ refusals.Suffix
KindRefusal kinds.Integer t = IsFaultOf (OnlyFault faults.Integer t)
KindRefusal kinds.Amount t = IsFaultOf (AmountFault t)
KindRefusal kinds.Boolean t = IsFaultOf (OnlyFault faults.Boolean t)
KindRefusal kinds.Name t = IsFaultOf (OnlyFault faults.Color t)
KindRefusal kinds.Attribute t = IsFaultOf (OnlyFault faults.Color t)
KindRefusal kinds.Color t = IsFaultOf (OnlyFault faults.Color t)

-- the result is `None` only for an accepted text, and one of these reasons only for a refused text
abbrev pub WhyRefused : {V : Type 0} → (List ℕ → V → Type 0) → (Refusal → Type 0) → List ℕ → Option Refusal
    → Type 0
WhyRefused grammar reason t None = IsAccepted grammar t
WhyRefused grammar reason t (Some r) = reason r × IsRefused grammar t

-- the text that a refusal is printed as: for a fault, the text of the fault
abbrev pub refusal_text : Refusal → List ℕ
refusal_text refusals.Suffix = codes "Suffixes are k, m and g, in either case"
refusal_text (refusals.Fault fault) = fault_text fault

use Rattle.config_color.specs.Laws.Composition.{compares_words}
use Rattle.gix_config_value.proofs.kind.same.Goals as goal

pub returns-in-Suffix : goal.returns-in-Suffix
returns-in-Suffix c = rw c.in-Suffix.is (record { answer = c.same_as.ensures; words = λ e. cc })

pub returns-in-Integer : goal.returns-in-Integer
returns-in-Integer c = rw c.in-Integer.is (record { answer = c.same_as-in-Integer.ensures; words = λ e. cc })

pub returns-in-Amount : goal.returns-in-Amount
returns-in-Amount c = rw c.in-Amount.is (record { answer = c.same_as-in-Amount.ensures; words = λ e. cc })

pub returns-in-Boolean : goal.returns-in-Boolean
returns-in-Boolean c = rw c.in-Boolean.is (record { answer = c.same_as-in-Boolean.ensures; words = λ e. cc })

pub returns-in-Name : goal.returns-in-Name
returns-in-Name c = rw c.in-Name.is (record { answer = c.same_as-in-Name.ensures; words = λ e. cc })

pub returns-in-Attribute : goal.returns-in-Attribute
returns-in-Attribute c = rw c.in-Attribute.is
    (record { answer = c.same_as-in-Attribute.ensures; words = λ e. cc })

pub returns-in-Color : goal.returns-in-Color
returns-in-Color c = rw c.in-Color.is
    (record {
      answer = c.same_as-in-Color.ensures;
      words = λ e. compares_words _ _ _ c.same_as-in-Color.ensures;
    })

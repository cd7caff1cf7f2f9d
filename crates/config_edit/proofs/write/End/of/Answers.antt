use Rattle.std.proofs.Common.{◌≡◌, ◌∙◌, ◌⊎◌, inl, inr, sym, subst, true≢false}
use Rattle.config_edit.specs.declared.piece.Held.{Held}
use Rattle.config_edit.specs.declared.piece.Held.TheVariants as held
use Rattle.config_file.specs.declared.section.Section as code
use Rattle.config_edit.specs.Reading as edit
use Rattle.config_edit.specs.Reading.{IsOpenHeld}
use Rattle.config_edit.proofs.write.End.of.Goals as goal

pub returns-then-piece : goal.returns-then-piece
returns-then-piece c = edit.line c.if-piece.true

pub returns-then-is_open : goal.returns-then-is_open
returns-then-is_open c =
    edit.backslashed c.if-piece.false
    (subst IsOpenHeld (sym c.in-Entry.is) (c.is_open.ensures.0 c.if-is_open.true))

pub returns-else-is_open : goal.returns-else-is_open
returns-else-is_open c =
    edit.unended c.if-piece.false
    (λ held. true≢false (sym (c.is_open.ensures.1 (subst IsOpenHeld c.in-Entry.is held))
    ∙ c.if-is_open.false))

not_open : (h : Held)
    → (h ≡ held.Nothing) ⊎ (h ≡ held.Comment) ⊎ ((section : code.Section) × (h ≡ held.Header section))
    → IsOpenHeld h → ⊥
not_open h (inl e) is = rw e at is
not_open h (inr (inl e)) is = rw e at is
not_open h (inr (inr (section, e))) is = rw e at is

pub returns-in-Nothing : goal.returns-in-Nothing
returns-in-Nothing c = edit.unended c.if-piece.false (not_open c.args.piece.now.held c.in-Nothing.is)

pub returns-in-Nothing-2 : goal.returns-in-Nothing-2
returns-in-Nothing-2 c = edit.unended c.if-piece.false (not_open c.args.piece.now.held c.in-Nothing.is)

pub returns-in-Nothing-3 : goal.returns-in-Nothing-3
returns-in-Nothing-3 c = edit.unended c.if-piece.false (not_open c.args.piece.now.held c.in-Nothing.is)

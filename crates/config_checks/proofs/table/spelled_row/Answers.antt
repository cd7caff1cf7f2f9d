use Rattle.std.proofs.Common.{◌≡◌, ◌∷◌, List, ℕ, map, IfErr, rules}
use Rattle.std.proofs.lemmas.Result.{IfErr-weaker}
use Rattle.config_file.specs.KeyView.{key_of}
use Rattle.config_checks.specs.declared.table.RowFault.TheVariants.{NoVersion}
use Rattle.config_checks.specs.Rows.{fields_of, HasMarks, HasBadVersion, IsBadKind, IsBadRow}
use Rattle.config_checks.proofs.TableLemmas.{bad_kind, bad_version}
use Rattle.config_checks.proofs.table.spelled_row.Goals as goal

pub returns-in_err-kind-clause-refused : goal.returns-in_err-kind-clause-refused
returns-in_err-kind-clause-refused c =
    let fields = fields_of c.args.line.now in
    let key = c.in-Some.key.now in
    let name = c.in-Some-split_first.name.now in
    let marked : List (List ℕ) = map (λ field. field.now) c.in-Some.marked.now in
    let words : List (List ℕ) = map (λ word. word.now) c.in-Some-split_first.words.now in
    let parts : fields ≡ key.now ∷ marked = search rules in
    let marks : HasMarks marked c.in_ok-marks.marks (name.now ∷ words) = search rules in
    let bad : IfErr c.from_residual-in_err-kind.result (IsBadKind name.now words) = search rules in
    IfErr-weaker c.from_residual-in_err-kind.result _ (IsBadRow fields)
    (λ fault is. bad_kind fields marked key.now name.now words (key_of c.in-Some-split.key) _ fault parts
    c.in-Some-split.ensures marks is) bad

pub returns-in_err-marks-clause-refused : goal.returns-in_err-marks-clause-refused
returns-in_err-marks-clause-refused c =
    let fields = fields_of c.args.line.now in
    let key = c.in-Some.key.now in
    let marked : List (List ℕ) = map (λ field. field.now) c.in-Some.marked.now in
    let parts : fields ≡ key.now ∷ marked = search rules in
    let bad : IfErr c.from_residual.result (λ fault. (fault ≡ NoVersion) × HasBadVersion marked) = search rules in
    IfErr-weaker c.from_residual.result _ (IsBadRow fields)
    (λ fault is. bad_version fields marked key.now
    (key_of c.in-Some-split.key) fault parts c.in-Some-split.ensures is) bad

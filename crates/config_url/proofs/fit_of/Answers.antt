use Rattle.std.proofs.Common.{rules}
use Rattle.config_file.specs.KeyView.{key_of}
use Rattle.config_url.specs.UrlView.{url_of, fit_in}
use Rattle.config_file.specs.Views.{entry_of}
use Rattle.config_url.proofs.UrlFits.{other_section, other_name, fits_weakest, pattern_fits_ok, under_fits}
use Rattle.config_url.proofs.fit_of.Goals as goal

pub returns-in-Some : goal.returns-in-Some
returns-in-Some c = λ text listed.
    under_fits fit_in (url_of c.args.url.now) c.fit_of_pattern.result
    (c.in-Some.ensures text listed (search rules)) c.fit_of_pattern.ensures

pub returns-then-not-eq_ignore_ascii_case : goal.returns-then-not-eq_ignore_ascii_case
returns-then-not-eq_ignore_ascii_case c text listed =
    other_section (key_of c.args.key.now) (url_of c.args.url.now) (entry_of c.args.entry.now)
    c.in_ok-text.text.items (key_of c.in-Some-split.of_entry) c.in_ok-text.ensures
    (rw c.deref.ensures.value at c.in-Some-split.ensures) (λ same. search rules)

pub returns-then-not-eq_ignore_ascii_case-2 : goal.returns-then-not-eq_ignore_ascii_case-2
returns-then-not-eq_ignore_ascii_case-2 c text listed =
    other_name (key_of c.args.key.now) (url_of c.args.url.now) (entry_of c.args.entry.now)
    c.in_ok-text.text.items (key_of c.in-Some-split.of_entry) c.in_ok-text.ensures
    (rw c.deref.ensures.value at c.in-Some-split.ensures) (λ same. search rules)

pub returns-in-Some-subsection : goal.returns-in-Some-subsection
returns-in-Some-subsection c text listed =
    pattern_fits_ok (key_of c.args.key.now) (url_of c.args.url.now) (entry_of c.args.entry.now)
    c.in_ok-text.text.items (key_of c.in-Some-split.of_entry) c.in_ok-text.ensures
    (rw c.deref.ensures.value at c.in-Some-split.ensures) text listed (search rules) (search rules) (search rules) fit_in
    c.fit_of_pattern-in-Some-subsection.result c.in-Some-subsection.pattern.now (search rules)
    c.fit_of_pattern-in-Some-subsection.ensures

pub returns : goal.returns
returns c text listed =
    fits_weakest (key_of c.args.key.now) (url_of c.args.url.now) (entry_of c.args.entry.now)
    c.in_ok-text.text.items (key_of c.in-Some-split.of_entry) c.in_ok-text.ensures
    (rw c.deref.ensures.value at c.in-Some-split.ensures) text listed (search rules) (search rules) (search rules)
    (search rules)

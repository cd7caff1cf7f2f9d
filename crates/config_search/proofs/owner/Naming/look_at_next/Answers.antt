use Rattle.std.proofs.Common.{◌≡◌, ◌+◌, ℕ, Decides, arith, length, refl, subst, sym, take}
use Rattle.std.proofs.lemmas.Option.{slice_get_read}
use Rattle.config_file.specs.KeyView.{key_of}
use Rattle.config_search.specs.Trust.{SaysSafe}
use Rattle.config_search.proofs.Trusted.{next_says}
use Rattle.config_search.proofs.owner.Naming.look_at_next.Goals as goal

pub returns-clause-safe : goal.returns-clause-safe
returns-clause-safe c = λ system agrees listed before.
    let settings = c.args.self.now.settings.entries.items in
    let got = rw c.deref.ensures.value at c.in-Some.ensures.lookup in
    let at = slice_get_read settings (length settings) c.args.self.now.done c.in-Some.setting.now refl got.3.0 got.1 in
    let next : c.saturating_add-self.result ≡ c.args.self.now.done + 1 =
    omega (arith, c.saturating_add-self.ensures, got.3.0, c.args.self.now.settings.entries.small) in
    let (text, lists) = listed c.args.self.now.done c.in-Some.setting.now got.3.0 in
    subst (λ (n : ℕ). Decides c.in_ok-is_safe.is_safe (SaysSafe system c.args.start.now c.args.self.now.folder.now (take n settings)))
    (sym next) (next_says system c.args.start.now c.args.self.now.folder.now settings c.args.self.now.done
    c.in-Some.setting.now (key_of c.in-Ok.key) c.args.self.now.is_safe c.in_ok-is_safe.is_safe at c.in-Ok.ensures before
    (c.in_ok-is_safe.ensures.safe text (rw (sym got.1) at lists) system agrees))

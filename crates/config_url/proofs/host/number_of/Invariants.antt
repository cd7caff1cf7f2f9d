use Rattle.std.proofs.Common.{◌≡◌, ◌≤◌, true, length}
use Rattle.std.specs.Char.{is_ascii_digit}
use Rattle.std.specs.List.{list_all}
use Rattle.config_url.specs.Url.{number_after}
use Rattle.config_url.proofs.host.number_of.Given as goal

abbrev pub invariant-digits : goal.invariant-digits
invariant-digits l = record {
  small : l.number ≤ 65535;
  all_digits : list_all is_ascii_digit l.rest ≡ true;
  same : number_after l.number l.rest ≡ number_after 0 l.fn.digits;
}

abbrev pub decreases-digits : goal.decreases-digits
decreases-digits l = length l.rest

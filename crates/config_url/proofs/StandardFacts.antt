-- What git-config(1) says about the ports of URLs: "Omitted port numbers are automatically converted to the
-- correct default for the scheme before matching". A definition with a wrong port fails here.
use Rattle.std.proofs.Common.{ℕ, codes, Some, None, Option, refl, inl, inr, arith}
use Prim.Native.String.{String}
use Rattle.config_url.specs.Url.{IsPort, number_after}

abbrev IsPortOf : String → String → Option ℕ → Type 0
IsPortOf scheme digits port = IsPort (codes scheme) (codes digits) port

-- RFC 9110 has 80 for http and 443 for https, and Git knows no others
pub defaults_are_none : IsPortOf "http" "80" None × IsPortOf "https" "443" None × IsPortOf "https" "0443" None
    × IsPortOf "ssh" "" None
unfolding number_after
defaults_are_none = (inr (inl (refl, refl)), inr (inr (refl, refl)), inr (inr (refl, refl)), inl refl)

pub others_are_kept : IsPortOf "http" "443" (Some 443) × IsPortOf "https" "80" (Some 80)
    × IsPortOf "ssh" "22" (Some 22) × IsPortOf "https" "65535" (Some 65535)
unfolding number_after
others_are_kept = (
  (λ e. cc (e), refl, omega arith, omega arith, λ h. elim h [ inl e ↦ omega (arith, e.1) | inr e ↦ cc (e.0) ]),
  (λ e. cc (e), refl, omega arith, omega arith, λ h. elim h [ inl e ↦ cc (e.0) | inr e ↦ omega (arith, e.1) ]),
  (λ e. cc (e), refl, omega arith, omega arith, λ h. elim h [ inl e ↦ cc (e.0) | inr e ↦ cc (e.0) ]),
  (λ e. cc (e), refl, omega arith, omega arith, λ h. elim h [ inl e ↦ cc (e.0) | inr e ↦ omega (arith, e.1) ]),
)

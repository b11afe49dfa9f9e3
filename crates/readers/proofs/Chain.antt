-- A chain of `decl` lines, screened: the first that stands there decides (`screen_decl`).
-- Assumes nothing.
use Rattle.std.specs.Prelude.{Option, Some, None, Result, Bool}
use Rattle.definitions.specs.Record.{Read, on_found}
use Rattle.definitions.specs.declared.Decl.{Decl}
use Prim.Native.Nat.{ℕ}
use mathlib.Core.Path.{◌≡◌, sym, ap, ◌∙◌}
use Rattle.definitions.specs.Bytes.{Text}
use Rattle.keywords.specs.Screens.{screen_decl}

module _ (s : Text) (bad : Read Decl) (f : ℕ → Read Decl) {x : Read (Result Decl Bool)} {r e : Option ℕ} where
  pub decl-found : {p : ℕ} → r ≡ e → r ≡ Some p → x ≡ screen_decl s (f p) → x ≡ screen_decl s (on_found e bad f)
  decl-found h k t = t ∙ ap (λ (e : Option ℕ). screen_decl s (on_found e bad f)) (sym k ∙ h)

  pub decl-missed : r ≡ e → r ≡ None → x ≡ screen_decl s bad → x ≡ screen_decl s (on_found e bad f)
  decl-missed h k t = t ∙ ap (λ (e : Option ℕ). screen_decl s (on_found e bad f)) (sym k ∙ h)

pub ruleset chain = (decl-found, decl-missed)

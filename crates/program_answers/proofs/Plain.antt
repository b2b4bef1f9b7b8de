-- What a command's shape says of its global arguments, and so of a command that it is added to.
use Rattle.std.proofs.Common.{◌≡◌, ◌∙◌, Bool, true, false, refl, ap, ap₂}
use Rattle.std.specs.Prelude.{◌&&◌, not}
use Rattle.clap.specs.Words.{App, AddsSubcommand, app_of, with_subcommand}
use Rattle.clap.specs.declared.builder.command.Command.{Command}

-- the third of what makes a command plain
third : (a b g r : Bool) → (a && (b && (not g && r))) ≡ true → g ≡ false
third true true false r h = refl
third true true true r h = absurd cc
third true false g r h = absurd cc
third false b g r h = absurd cc

-- a plain command was added to another one
pub added : (old sub new : Command) (whole part : App) → AddsSubcommand old sub new → app_of old ≡ whole → app_of sub ≡ part → part.top.is_plain ≡ true
    → app_of new ≡ with_subcommand whole part.top
added old sub new whole part adds one two plain =
    adds.shape (third _ _ _ _ (ap (λ (a : App). a.top.is_plain) two ∙ plain)) ∙ ap₂ with_subcommand one (ap (λ (a : App). a.top) two)

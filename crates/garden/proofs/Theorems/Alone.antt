-- No commands, and the conversions alone, are the build without garden paths.
use Rattle.std.specs.Prelude.{◌≡◌, refl, List, [], ◌∷◌}
use Rattle.std.proofs.Common.{◌∙◌}
use Rattle.words.specs.Outcome.{Res, ok, no, bind}
use Rattle.words.specs.Numbers.{Fault}
use Rattle.rules.specs.Rules.{Rule}
use Rattle.tree.specs.Grow.{Grown, plant, convert_all, grow}
use Rattle.garden.specs.Garden.{Bounds, command_of, command_size, commands_of, the_commands, handle_command, handle_commands, is_conversions, asked, convert_last, tend, build}

pub bind_ok : {A : Type 0} (x : Res Fault A) → bind x (λ a. ok a) ≡ x
unfolding bind
bind_ok (ok a) = refl
bind_ok (no y) = refl

pub no-commands : (z : Bounds) (R : List Rule) → build z R (the_commands []) ≡ grow z.room R
unfolding build tend handle_commands asked convert_last commands_of grow bind
no-commands z R = refl

pub conversions-alone : (z : Bounds) (R : List Rule) → build z R (the_commands (2 ∷ [])) ≡ grow z.room R
unfolding build tend handle_commands handle_command is_conversions asked convert_last commands_of command_of command_size grow bind
conversions-alone z R = by (plant z.room R)
  where
    by : (x : Res Fault Grown) → bind x (λ g. bind (bind (convert_all z.room 1 R g) λ g. ok g) λ g. ok g) ≡ bind x (λ g. convert_all z.room 1 R g)
    by (ok g) = bind_ok (bind (convert_all z.room 1 R g) λ g. ok g) ∙ bind_ok (convert_all z.room 1 R g)
    by (no y) = refl

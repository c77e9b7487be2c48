-- What the code's own refusals stand for.
use Rattle.words.specs.Numbers as reasons
use Rattle.formula.specs.declared.Unfit.{Unfit}
use Rattle.formula.specs.declared.Unfit.TheVariants.{TooFew, Full}
use Rattle.walk.specs.declared.refusal.Why.{Why}
use Rattle.walk.specs.declared.refusal.Why.TheVariants.{Unparseable, TooShort, Misfit, NoFrame, NoEntry}

abbrev pub why_of : Why → reasons.Why
why_of (Unparseable p) = reasons.unparseable p
why_of (TooShort p) = reasons.too_short p
why_of Misfit = reasons.misfit
why_of NoFrame = reasons.no_frame
why_of NoEntry = reasons.no_entry

-- a reduce that is refused
abbrev pub refusal : Unfit → Why
refusal TooFew = Misfit
refusal Full = NoEntry

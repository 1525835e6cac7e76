-- What the answer of an opening says of the connection after it.
use Rattle.keeper_opening.proofs.Common.{◌≡◌, ◌∙◌, Option, None, Ok, Err, Result, ap, is_some, Held, option_or, KeepError, Place, Closed, Opened, Answers, IfRefused, IsUnanswered, noted_cause}
use Rattle.keeper_opening.specs.declared.opening.DatabaseFault.{DatabaseFault}
use Rattle.keeper_opening.specs.declared.opening.OpenError.{OpenError}
use Rattle.keeper_opening.specs.declared.opening.OpenError.TheVariants.{Memory, Refused}

-- a cause that is noted is the one that was told
pub noted_after : {T : Type 0} (noted old found : Option DatabaseFault) (loaded : Result T KeepError) (cause : DatabaseFault) → noted ≡ option_or old found → found ≡ noted_cause loaded cause
    → (fault : DatabaseFault) → cause ≡ fault → noted ≡ option_or old (noted_cause loaded fault)
noted_after noted old found loaded cause is found_is fault same = is ∙ ap (option_or old) (found_is ∙ ap (noted_cause loaded) same)

-- what holds of each reason that is told
if_refused_map : {H : Type 0} (answer : Result H OpenError) (P Q : DatabaseFault → Type 0) → ((fault : DatabaseFault) → P fault → Q fault) → IfRefused answer P → IfRefused answer Q
if_refused_map (Err (Refused fault)) P Q more p = more fault p
if_refused_map (Err Memory) P Q more p = tt
if_refused_map (Ok c) P Q more p = tt

module _ {S O : Type 0} (gives : O → Result (Held S) OpenError → Type 0) where
  pub answers_after : (p : Place S O) (before after : Option (Held S)) (P Q : DatabaseFault → Type 0) → is_some after ≡ is_some before → ((fault : DatabaseFault) → P fault → Q fault)
      → Answers gives p before P → Answers gives p after Q
  answers_after (Closed opener) before after P Q same more it =
      record { answer = it.answer; given = it.given; connected = same ∙ it.connected; refused = if_refused_map it.answer P Q more it.refused }
  answers_after (Opened k) before after P Q same more it = same ∙ it

  -- without memory there is no connection
  pub unanswered_after : (p : Place S O) (after : Option (Held S)) (Q : DatabaseFault → Type 0) → after ≡ None → IsUnanswered gives p → Answers gives p after Q
  unanswered_after (Closed opener) after Q none given = record { answer = Err Memory; given = given; connected = ap is_some none; refused = tt }
  unanswered_after (Opened k) after Q none given = absurd given

-- How a demo ends.
use Rattle.mcy_top.proofs.Common.{◌≡◌, inl, inr, ℕ, List, refl, sym, subst, Option, Some, Rose, Book, blank, Keeps, Prepared, IsPlan, Refusal, RefusedProject, RefusedScript, RefusedSource}
use Rattle.mcy_top.proofs.Common.{NoMemoryThere, IsUnmade, Done, summary_text, made_held, made_limit, IsOfTexts, Ending, Written, Refused, NoMemory, ended_outcome, Delivers, HasCause, IsQuiet}
use Rattle.mcy_top.proofs.Common.{outcome_of, IsMadeOf, IsSummary, RanPart, RanWhole, Shown}

-- the campaign of a made project is one of some project
pub made_plan : (seed cells : ℕ) (c : Prepared) → IsMadeOf seed cells c → IsPlan c
made_plan seed cells c made = record { config = made.config; files = made.files; made = made.made }

-- a keeper that keeps a book and leaves nothing else
pub kept_blank : (book : Book) → book ≡ blank → Keeps (λ b. b ≡ book) (λ left. left ≡ Some book) blank
kept_blank book is = subst (λ (b : Book). Keeps (λ x. x ≡ b) (λ left. left ≡ Some b) blank) (sym is) (record { told = refl; crash = record { itself = refl; nothing_else = λ other same. same } })

-- the texts were refused
pub refused_shown : (seed cells : ℕ) (written : Option (List ℕ)) (n : ℕ) (refusal : Refusal) → IsUnmade (Some (made_held seed cells)) refusal → IsOfTexts refusal → Shown seed cells written written n n (outcome_of refusal)
refused_shown seed cells written n (RefusedProject error) why texts = record { why = why; quiet = refl; idle = refl }
refused_shown seed cells written n (RefusedScript error) why texts = record { why = why; quiet = refl; idle = refl }
refused_shown seed cells written n (RefusedSource error) why texts = record { why = why; quiet = refl; idle = refl }
refused_shown seed cells written n NoMemoryThere why texts = (refl, inl refl)
refused_shown seed cells written n refusal why texts = absurd texts

pub refused_quiet : (written : Option (List ℕ)) (refusal : Refusal) → IsOfTexts refusal → IsQuiet written written (outcome_of refusal)
refused_quiet written (RefusedProject error) texts = refl
refused_quiet written (RefusedScript error) texts = refl
refused_quiet written (RefusedSource error) texts = refl
refused_quiet written NoMemoryThere texts = refl
refused_quiet written refusal texts = absurd texts

pub refused_cause : (files keeper sink : ℕ) (refusal : Refusal) → IsOfTexts refusal → HasCause files files keeper keeper sink sink (outcome_of refusal)
refused_cause files keeper sink (RefusedProject error) texts = tt
refused_cause files keeper sink (RefusedScript error) texts = tt
refused_cause files keeper sink (RefusedSource error) texts = tt
refused_cause files keeper sink NoMemoryThere texts = tt
refused_cause files keeper sink refusal texts = absurd texts

-- the summary was made, and then written or not
pub summary_is : (seed cells before now : ℕ) (c : Prepared) (status text : List ℕ) → IsMadeOf seed cells c → c.campaign.conflicts ≡ made_limit → RanWhole c c.campaign.conflicts before now status → text ≡ summary_text seed cells c.site_count status → IsSummary seed cells before now text
summary_is seed cells before now c status text made limit ran is =
    record { prepared = c; made = made; status = status; ran = subst (λ (n : ℕ). RanWhole c n before now status) limit ran; is = is }

pub part_is : (c : Prepared) (before now : ℕ) → c.campaign.conflicts ≡ made_limit → RanPart c c.campaign.conflicts before now → RanPart c made_limit before now
part_is c before now limit ran = subst (λ (n : ℕ). RanPart c n before now) limit ran

pub delivered_shown : (seed cells : ℕ) (written written' : Option (List ℕ)) (before now : ℕ) (c : Prepared) (text : List ℕ) (ending : Ending) → IsMadeOf seed cells c → RanPart c made_limit before now → IsSummary seed cells before now text
    → Delivers written written' text ending → Shown seed cells written written' before now (ended_outcome Done ending)
delivered_shown seed cells written written' before now c text Written made part summary wrote = (text, summary, wrote)
delivered_shown seed cells written written' before now c text Refused made part summary wrote = (text, summary, wrote)
delivered_shown seed cells written written' before now c text NoMemory made part summary wrote = (wrote, inr (c, made, part))

pub delivered_quiet : (written written' : Option (List ℕ)) (text : List ℕ) (ending : Ending) → Delivers written written' text ending → IsQuiet written written' (ended_outcome Done ending)
delivered_quiet written written' text Written wrote = tt
delivered_quiet written written' text Refused wrote = tt
delivered_quiet written written' text NoMemory wrote = wrote

pub delivered_cause : (files keeper sink sink' : ℕ) (ending : Ending) → (ending ≡ Refused → Rose sink sink') → HasCause files files keeper keeper sink sink' (ended_outcome Done ending)
delivered_cause files keeper sink sink' Written rose = tt
delivered_cause files keeper sink sink' Refused rose = rose refl
delivered_cause files keeper sink sink' NoMemory rose = tt

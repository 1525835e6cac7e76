-- Campaigns that are made of two numbers.
use Rattle.std.specs.Prelude.{◌≡◌, ℕ, length, replicate}
use Rattle.result_book.specs.declared.campaign.Campaign.{Campaign}
use Rattle.result_book.specs.Campaigns.{IsFit, eq_kind}

-- For proofs alone.

-- a campaign of so many mutations and equivalence tests
pub record IsMade (mutations tests : ℕ) (c : Campaign) : Type 0 where
  pub fit : IsFit c
  pub mutations_are : length c.mutations ≡ mutations
  pub kinds_are : c.kinds ≡ replicate tests eq_kind

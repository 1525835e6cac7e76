-- Tokens that are nothing but what is seen of them: kind, text and place.
use Rattle.vlog_token.specs.declared.token.Token.{Token}
use Rattle.vlog_token.specs.Sources.{SeenToken, seen}

-- a token of which this is seen, whose text lies nowhere
abbrev pub token_of : SeenToken → Token
token_of s = record { kind = s.kind; text = record { ref_ptr = (0, 0); now = s.text }; span = s.span }

-- the same token, whose text lies nowhere
abbrev pub bare : Token → Token
bare t = token_of (seen t)

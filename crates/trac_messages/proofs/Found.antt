-- What the header says, as a search finds its end.
use Rattle.std.proofs.Common.{◌≡◌, ℕ, ◌+◌, ◌<◌, ◌≤◌, List, length, take, sym, ap, ◌∙◌, arith}
use Rattle.std.specs.Prelude.{nat_le, None, Option, Some}
use Rattle.std.proofs.lemmas.Bool.{cond-false, cond-true, le-leb, lt-leb}
use Rattle.memchr.specs.Find.{FindsNeedle}
use Rattle.trac_rules.specs.Segmenting.{leftmost}
use Rattle.trac_messages.specs.declared.header.TheConstants.{HEADER_LIMIT}
use Rattle.trac_messages.specs.declared.header.Heading.TheVariants.{Open, Silent}
use Rattle.trac_messages.specs.Headers.{announced, header_end, heading_at, heading_by, heading_in, heading_of}
use Rattle.trac_messages.proofs.Ends.{leftmost_found, leftmost_nowhere}

module _ (bytes front : List ℕ) (is : front ≡ take HEADER_LIMIT bytes) where
  by_place : (found : Option ℕ) → leftmost header_end front ≡ found → heading_of bytes ≡ heading_at found front
  unfolding heading_of
  by_place found at = ap heading_in (sym is) ∙ ap (λ (o : Option ℕ). heading_at o front) at

  pub heading_open : FindsNeedle front header_end 0 None → length front < HEADER_LIMIT → Open ≡ heading_of bytes
  heading_open none few =
      sym (by_place None (leftmost_nowhere header_end front (omega arith) none)
      ∙ cond-false (nat_le HEADER_LIMIT (length front)) (Silent HEADER_LIMIT) Open (lt-leb HEADER_LIMIT (length front) few))

  pub heading_endless : FindsNeedle front header_end 0 None → HEADER_LIMIT ≤ length front → Silent HEADER_LIMIT ≡ heading_of bytes
  heading_endless none full =
      sym (by_place None (leftmost_nowhere header_end front (omega arith) none)
      ∙ cond-true (nat_le HEADER_LIMIT (length front)) (Silent HEADER_LIMIT) Open (le-leb HEADER_LIMIT (length front) full))

  pub heading_read : (place : ℕ) (line : List ℕ) (len : Option ℕ) → FindsNeedle front header_end 0 (Some place) → line ≡ take place front → len ≡ announced line →
      heading_by (place + length header_end) len ≡ heading_of bytes
  heading_read place line len found cut announces =
      sym (by_place (Some place) (leftmost_found header_end front place (omega arith) found)
      ∙ ap (heading_by (place + length header_end)) (sym (announces ∙ ap announced cut)))

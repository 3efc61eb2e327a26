-- The definitions that worked rows open.
unfoldable pub use Rattle.std.specs.Fmt.{digits}
unfoldable pub use Rattle.trac_rules.specs.Doubts.{doubts}
unfoldable pub use Rattle.trac_rules.specs.Limits.{texts_fit}
unfoldable pub use Rattle.trac_rules.specs.Matching.{match_of}
unfoldable pub use Rattle.trac_rules.specs.Number.{calculated, difference_of, is_greater, number_of, numeral_of, prefix_of, product_of, quotient_of, sum_of, whole_number}
unfoldable pub use Rattle.trac_rules.specs.Performing.{performed}
unfoldable pub use Rattle.trac_rules.specs.Records.{state_before}
unfoldable pub use Rattle.trac_rules.specs.Running.{output_from}
unfoldable pub use Rattle.trac_rules.specs.Scanning.{scan}
unfoldable pub use Rattle.trac_rules.specs.Segmenting.{cut_out, part}
unfoldable pub use Rattle.trac_rules.specs.Session.{answer}
unfoldable pub use Rattle.trac_rules.specs.Stepping.{step}

-- What a command line may ask for.
use Rattle.std.specs.Prelude.{◌≤◌, ℕ, Option, IfSome}
use Rattle.trac_rules.specs.declared.limit.TheConstants.{JOURNAL_LIMIT}
use Rattle.trac_streams.specs.declared.options.TheConstants.{BUDGET_LIMIT}
use Rattle.trac_streams.specs.declared.options.Options.{Options}
use Rattle.trac_words.specs.declared.memory_words.TheConstants.{LEAST_MEMORY, MOST_MEMORY}
use Rattle.trac_words.specs.declared.walk_words.TheConstants.{KEEP_LIMIT}
use Rattle.trac_words.specs.declared.walk_words.WalkLine.{WalkLine}
use Rattle.trac_words.specs.declared.walk_words.WalkLine.TheVariants as walks
use Rattle.trac_words.specs.declared.lint_words.LintLine.{LintLine}
use Rattle.trac_words.specs.declared.lint_words.LintLine.TheVariants as lints
use Rattle.trac_words.specs.declared.words.Line.{Line}
use Rattle.trac_words.specs.declared.words.Line.TheVariants.{Run, Debug, Help, Bad}

-- the options of a run or of the debugger are within their ranges
pub record AreWithin (options : Options) : Type 0 where
  pub some_steps : 1 ≤ options.budget
  pub most_steps : options.budget ≤ BUDGET_LIMIT
  pub some_records : 1 ≤ options.journal
  pub most_records : options.journal ≤ JOURNAL_LIMIT

-- so is the memory that it is allowed, if any is named
abbrev pub IsMemory : Option ℕ → Type 0
IsMemory memory = IfSome memory (λ size. (LEAST_MEMORY ≤ size) × (size ≤ MOST_MEMORY))

abbrev pub IsLine : Line → Type 0
IsLine (Run options memory) = AreWithin options × IsMemory memory
IsLine (Debug path options memory) = AreWithin options × IsMemory memory
IsLine (Help text) = Unit {0}
IsLine (Bad text) = Unit {0}

-- so are those of a walk
abbrev pub IsWalkLine : WalkLine → Type 0
IsWalkLine (walks.Walk path options keep prompt memory) =
    AreWithin options × (1 ≤ keep) × (keep ≤ KEEP_LIMIT) × IsMemory memory
IsWalkLine (walks.Help text) = Unit {0}
IsWalkLine (walks.Bad text) = Unit {0}

-- and the numbers of a search for doubts
abbrev pub IsLintLine : LintLine → Type 0
IsLintLine (lints.Lint paths input steps keep decimals memory) =
    (1 ≤ steps) × (steps ≤ BUDGET_LIMIT) × (1 ≤ keep) × (keep ≤ KEEP_LIMIT) × IsMemory memory
IsLintLine (lints.Help text) = Unit {0}
IsLintLine (lints.Bad text) = Unit {0}

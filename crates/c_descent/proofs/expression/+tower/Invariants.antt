use Rattle.std.proofs.Common.{◌+◌, ◌-◌, ◌*◌, ◌≡◌, ◌≤◌, length}
use Rattle.c_tree.specs.declared.token.Class.TheVariants as class
use Rattle.c_grammar.specs.Grammar.{Ref, Word, Kind, Suffix, Expression, word, operators, operand, ◌⊳◌}
use Rattle.c_grammar.specs.Meaning.{Forest, limit, ◌+++◌}
use Rattle.c_grammar.specs.Trees.{shape, each, link_row, suffix_tree, expression_tree}
use Rattle.c_grammar.proofs.Steps.{Past}
use Rattle.c_descent.specs.More.{FirstOf}
use Rattle.c_descent.proofs.expression.+tower.Given as goal

abbrev pub decreases-expression : goal.decreases-expression
decreases-expression l = (limit + 1 - l.level) * 64 + 60

abbrev pub decreases-choice_arms : goal.decreases-choice_arms
decreases-choice_arms l = (limit + 1 - l.level) * 64 + 0

abbrev pub decreases-binary : goal.decreases-binary
decreases-binary l = (limit + 1 - l.level) * 64 + (3 * l.grade + 13)

abbrev pub decreases-operand : goal.decreases-operand
decreases-operand l = (limit + 1 - l.level) * 64 + (3 * l.grade + 11)

abbrev pub decreases-links : goal.decreases-links
decreases-links l = (limit + 1 - l.level) * 64 + (3 * l.grade + 12)

abbrev pub decreases-unary : goal.decreases-unary
decreases-unary l = (limit + 1 - l.level) * 64 + 10

abbrev pub decreases-constant : goal.decreases-constant
decreases-constant l = (limit + 1 - l.level) * 64 + 6

abbrev pub decreases-named : goal.decreases-named
decreases-named l = (limit + 1 - l.level) * 64 + 6

abbrev pub decreases-arguments : goal.decreases-arguments
decreases-arguments l = (limit + 1 - l.level) * 64 + 3

abbrev pub decreases-argument_list : goal.decreases-argument_list
decreases-argument_list l = (limit + 1 - l.level) * 64 + 62

abbrev pub decreases-more_arguments : goal.decreases-more_arguments
decreases-more_arguments l = (limit + 1 - l.level) * 64 + 61

abbrev pub decreases-allocation : goal.decreases-allocation
decreases-allocation l = (limit + 1 - l.level) * 64 + 6

abbrev pub decreases-inside : goal.decreases-inside
decreases-inside l = (limit + 1 - l.level) * 64 + 3

abbrev pub decreases-parenthesis : goal.decreases-parenthesis
decreases-parenthesis l = (limit + 1 - l.level) * 64 + 7

abbrev pub decreases-cast : goal.decreases-cast
decreases-cast l = (limit + 1 - l.level) * 64 + 5

abbrev pub decreases-group : goal.decreases-group
decreases-group l = (limit + 1 - l.level) * 64 + 6

abbrev pub decreases-prefixed : goal.decreases-prefixed
decreases-prefixed l = (limit + 1 - l.level) * 64 + 6

abbrev pub decreases-postfix : goal.decreases-postfix
decreases-postfix l = (limit + 1 - l.level) * 64 + 5

abbrev pub decreases-suffixes : goal.decreases-suffixes
decreases-suffixes l = (limit + 1 - l.level) * 64 + 4

abbrev pub decreases-suffix : goal.decreases-suffix
decreases-suffix l = (limit + 1 - l.level) * 64 + 3

abbrev pub decreases-subscript : goal.decreases-subscript
decreases-subscript l = (limit + 1 - l.level) * 64 + 2

abbrev pub invariant-links-links : goal.invariant-links-links
invariant-links-links l =
    record {
      past : Past l.level (Word Kind (operators l.grade) ⊳ operand l.grade) l.initial.rest l.rest (each (link_row shape l.grade) l.links);
      grade : FirstOf l.grade l.links;
      shorter : length l.rest ≤ length l.initial.rest;
    }

abbrev pub decreases-links-links : goal.decreases-links-links
decreases-links-links l = length l.rest

abbrev pub invariant-more_arguments-arguments : goal.invariant-more_arguments-arguments
invariant-more_arguments-arguments l =
    record {
      past : (f : Forest) × (each expression_tree l.arguments ≡ each expression_tree l.initial.arguments +++ f) × Past l.level (word class.Comma ⊳ Ref Expression) l.initial.rest l.rest f;
      shorter : length l.rest ≤ length l.initial.rest;
    }

abbrev pub decreases-more_arguments-arguments : goal.decreases-more_arguments-arguments
decreases-more_arguments-arguments l = length l.rest

abbrev pub invariant-suffixes-suffixes : goal.invariant-suffixes-suffixes
invariant-suffixes-suffixes l =
    record {
      past : Past l.level (Ref Suffix) l.initial.rest l.rest (each (suffix_tree shape) l.suffixes);
      shorter : length l.rest ≤ length l.initial.rest;
    }

abbrev pub decreases-suffixes-suffixes : goal.decreases-suffixes-suffixes
decreases-suffixes-suffixes l = length l.rest

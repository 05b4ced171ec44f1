use Rattle.side_conditions.proofs.Sufficing as proof
use Rattle.side_conditions.proofs.laws.text_suffices.Goals as goal

pub returns-clause-keeps : goal.returns-clause-keeps
returns-clause-keeps c = proof.keeps_suffices

pub returns-clause-ignores : goal.returns-clause-ignores
returns-clause-ignores c = proof.ignores_suffices

pub returns-clause-commutes : goal.returns-clause-commutes
returns-clause-commutes c = proof.commutes_suffices

pub returns-clause-positive : goal.returns-clause-positive
returns-clause-positive c = proof.positive_suffices

pub returns-clause-constant : goal.returns-clause-constant
returns-clause-constant c = proof.constant_suffices

pub returns-clause-distinct : goal.returns-clause-distinct
returns-clause-distinct c = proof.distinct_suffices

pub returns-clause-quiet : goal.returns-clause-quiet
returns-clause-quiet c = proof.quiet_suffices

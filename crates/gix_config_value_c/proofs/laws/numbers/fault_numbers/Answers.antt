use Rattle.gix_config_value_c.proofs.NumbersApart.{faults_apart, places_apart, path_texts_apart, faults_of_texts_or_paths}
use Rattle.gix_config_value_c.proofs.laws.numbers.fault_numbers.Goals as goal

pub returns : goal.returns
returns c = record {
  faults = faults_apart;
  places = places_apart;
  paths = path_texts_apart;
  apart = faults_of_texts_or_paths;
}
